use Rattle.std.proofs.Common.{◌<◌, length, take, arith, length-take, refl}
use Rattle.script_syntax.specs.Words.{words_left}
use Rattle.script_syntax.specs.Parts.{text_of}
use Rattle.script_syntax.proofs.Numbers.{number_short, number_next, spelled_more, writable_more}
use Rattle.script_syntax.proofs.words.next_numbers.Goals as goal

pub returns-in_default-clause-none : goal.returns-in_default-clause-none
returns-in_default-clause-none c ns rest as_many writable spelled =
    let before = take c.loop-place.place c.loop-place.numbers in
    number_short ns before _ rest (words_left (text_of c.loop-place.rest))
    (omega (arith, length-take c.loop-place.place c.loop-place.numbers)) spelled c.loop-place.invariant.reported (rw c.in_default.is refl)

pub returns-in_default-cut_number-clause-none : goal.returns-in_default-cut_number-clause-none
returns-in_default-cut_number-clause-none c ns rest as_many writable spelled =
    let here = rw c.in-Some.is at c.loop-place.invariant.reported in
    let before = take c.loop-place.place c.loop-place.numbers in
    let next = number_next ns before _ rest _ writable
    (omega (arith, length-take c.loop-place.place c.loop-place.numbers)) spelled here in
    c.in_default-cut_number.ensures.none next.0 next.1 next.2 next.3

pub loop-place-preserved : goal.loop-place-preserved
loop-place-preserved c =
    let number = c.in-Some-cut_number.ensures.some in
    let below : c.loop-place.place < length c.loop-place.numbers = omega arith in
    record {
      reported =
          spelled_more c.loop-place.numbers c.loop-place.place c.in-Some-cut_number.number _ _ _ below
          (rw c.in-Some.is at c.loop-place.invariant.reported) number.1;
      writable = writable_more c.loop-place.numbers c.loop-place.place c.in-Some-cut_number.number below c.loop-place.invariant.writable number.0;
    }
