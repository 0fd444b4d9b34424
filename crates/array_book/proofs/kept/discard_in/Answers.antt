use Rattle.std.proofs.Common.{refl, rules}
use Rattle.array_book.specs.Acts.{IsLed}
use Rattle.array_book.proofs.Going.{ticket_zero, discard_goes, led_note, noted_as, kept_as}
use Rattle.array_book.proofs.Shown.{kept_with, ticket_of_some, discard_still}
use Rattle.array_book.proofs.kept.discard_in.Goals as goal

pub invariant_of-kept : goal.invariant_of-kept
invariant_of-kept g c =
    let k = c.kept.invariant.0 in
    let a = c.kept.inside.array in
    let s = c.args.ticket in
    let w = ticket_of_some k.flat a s k.shows in
    let reported = c.discard-discarded.ensures.flat k.flat 0 k.shows (ticket_zero k.flat s w.0 c.kept.invariant.1.traced.idle w.1) in
    let on = discard_goes _ _ c.discard-discarded.result a c.discard-discarded.new.self k.flat s k.shows c.kept.invariant.1.traced.idle c.discard-discarded.ensures.err reported in
    let same = kept_with _ _ _ _ k (discard_still _ _ _ c.discard-discarded.result a c.discard-discarded.new.self s c.discard-discarded.ensures.claim c.discard-discarded.ensures.err) refl (on.flat, on.shows) in
    kept_as (IsLed c.note.new.self g.N.Sizes.hands) _ _ _ same on.flat on.shows (led_note _ _ _ _ _ _ _ _ c.kept.invariant.1 on c.note.ensures.log (search rules))

pub returns-clause-called : goal.returns-clause-called
returns-clause-called g c = noted_as _ _ _ _ _ _ c.note.ensures.noted (search rules) c.note.ensures.seen (invariant_of-kept g c).1.traced
