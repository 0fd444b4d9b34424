use Rattle.std.proofs.Common.{refl, rules}
use Rattle.array_book.specs.Acts.{IsLed}
use Rattle.array_book.proofs.Going.{read_goes, led_note, noted_as, kept_as}
use Rattle.array_book.proofs.Shown.{kept_with, learn_still, learned_reported, learned_version}
use Rattle.array_book.proofs.kept.read_in.Goals as goal

pub invariant_of-kept : goal.invariant_of-kept
invariant_of-kept g c =
    let k = c.kept.invariant.0 in
    let a = c.kept.inside.array in
    let b = c.read_or_learn_into-read.new.self in
    let reported = c.read_or_learn_into-read.ensures.flat k.flat k.shows in
    let on = read_goes c.read_or_learn_into-read.result a b k.flat c.args.asked k.shows c.kept.invariant.1.traced.idle c.read_or_learn_into-read.ensures.err reported in
    let same = kept_with _ _ _ _ k (learn_still c.read_or_learn_into-read.result a b k.flat c.args.asked c.read_or_learn_into-read.ensures.rest k.shows c.read_or_learn_into-read.ensures.err reported) refl (on.flat, on.shows) in
    kept_as (IsLed c.note.new.self g.N.Sizes.hands) _ _ _ same on.flat on.shows (led_note _ _ _ _ _ _ _ _ c.kept.invariant.1 on c.note.ensures.log (search rules))

pub returns-clause-called : goal.returns-clause-called
returns-clause-called g c = noted_as _ _ _ _ _ _ c.note.ensures.noted (search rules) c.note.ensures.seen (invariant_of-kept g c).1.traced

pub returns-clause-reported : goal.returns-clause-reported
returns-clause-reported g c =
    let k = c.kept.invariant.0 in
    learned_reported c.read_or_learn_into-read.result c.kept.inside.array c.read_or_learn_into-read.new.self k.flat c.args.asked _ k.shows (c.read_or_learn_into-read.ensures.flat k.flat k.shows)

pub returns-clause-written : goal.returns-clause-written
returns-clause-written g c =
    let k = c.kept.invariant.0 in
    learned_version c.read_or_learn_into-read.result c.kept.inside.array c.read_or_learn_into-read.new.self k.flat c.args.asked _ k.shows (c.read_or_learn_into-read.ensures.flat k.flat k.shows)
