use Rattle.std.proofs.Common.{◌≤◌, List, length, rules, sym, subst}
use Rattle.extents.specs.Condition.{Held}
use Rattle.slot_tables.specs.Represents.{Represents}
use Rattle.slot_tables.specs.Views.{WorldView}
use Rattle.array_batch.proofs.Arrays.{keys_of}
use Rattle.group_changes.proofs.Regrouping.{is_regrouped}
use Rattle.group_changes.proofs.memory.regrouped.Goals as goal

pub returns-clause-changed : goal.returns-clause-changed
returns-clause-changed c = λ was what both outlives.
    let old = c.in_ok-found.found in
    let holds = c.in_ok-found.ensures.bytes was what.bytes both.holds outlives in
    let step = c.in_ok-apply.ensures holds.state.flat (subst (λ (w : WorldView). Represents w holds.state.flat) (sym c.into_world-world.ensures) holds.matches.world) in
    is_regrouped what c.args.change.now c.args.parts (c.is_fit.ensures.0 (search rules)) old c.in_ok-tiers.tiers holds (c.in_ok-found.ensures.map was what.keys (keys_of was what both) outlives) c.in_ok-found.ensures.same
    step.0 step.1 (c.in_ok-tiers.ensures.ok step.0 step.2) c.in_ok-parts.parts c.in_ok-parts.ensures.parts

pub test_present-requires : goal.test_present-requires
test_present-requires c = subst (λ (l : List Held). length l ≤ 16) (sym c.deref.ensures.value) c.in_ok-parts.ensures.fit.most
