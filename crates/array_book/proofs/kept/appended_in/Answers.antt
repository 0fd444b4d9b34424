use Rattle.std.proofs.Common.{rules}
use Rattle.array_book.specs.Acts.{IsLed}
use Rattle.array_book.specs.Kept.{IsKept}
use Rattle.array_book.proofs.Going.{kept_as}
use Rattle.array_book.proofs.kept.appended_in.Goals as goal

pub invariant_of-kept : goal.invariant_of-kept
invariant_of-kept g c =
    let k = c.kept.invariant.0 in
    let is : IsKept g.N.Sizes.blocks g.N.Sizes.payload (record { array = c.kept.inside.array; planner = c.appended.new.self }) = search rules in
    kept_as (IsLed c.kept.inside.keeper g.N.Sizes.hands) _ _ _ is k.flat k.shows c.kept.invariant.1
