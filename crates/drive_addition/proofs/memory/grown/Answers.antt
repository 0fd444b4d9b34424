use Rattle.std.proofs.Common.{◌≤◌, List, length, rules, sym, subst}
use Rattle.extents.specs.Condition.{Held}
use Rattle.array_batch.specs.Arrays.{AreHeldPresent}
use Rattle.array_batch.proofs.Arrays.{keys_of}
use Rattle.drive_addition.proofs.Growing.{is_grown}
use Rattle.drive_addition.proofs.memory.grown.Goals as goal

pub returns-clause-grown : goal.returns-clause-grown
returns-clause-grown c = λ was what both outlives.
    let old = c.in_ok-tiers.tiers in
    let holds = c.in_ok-tiers.ensures.bytes was what.bytes both.holds outlives in
    let more = c.in_ok-expand.ensures.grown holds.state holds.matches in
    is_grown what c.args.parts (c.is_fit.ensures.0 (search rules)) old c.expand.new.tiers holds (c.in_ok-tiers.ensures.map was what.keys (keys_of was what both) outlives) c.in_ok-tiers.ensures.same
    more.0 more.1 more.2 more.3 (c.expand.ensures.map holds.state holds.matches) c.in_ok-parts.parts c.in_ok-parts.ensures.parts
    (subst AreHeldPresent c.deref.ensures.value c.in_ok-test_present.ensures)

pub test_present-requires : goal.test_present-requires
test_present-requires c = subst (λ (l : List Held). length l ≤ 16) (sym c.deref.ensures.value) c.in_ok-parts.ensures.fit.most
