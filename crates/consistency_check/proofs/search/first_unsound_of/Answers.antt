use Rattle.std.proofs.Common.{◌+◌, ◌*◌, ◌<◌, ◌≡◌, refl, arith}
use Rattle.extent_groups.specs.Groups.{group_at, slots_in}
use Rattle.extent_groups.proofs.StoreCalls.{drives_kept}
use Rattle.extent_groups.proofs.DriveCalls.{keeps_trans}
use Rattle.extent_groups.proofs.Losses.{kept_fades}
use Rattle.unit_store.proofs.GoneSlots.{index_is}
use Rattle.consistency_check.proofs.Below.{below_fades, below_more, group_below}
use Rattle.consistency_check.proofs.search.first_unsound_of.Goals as goal

pub overflow_add-slot : goal.overflow_add-slot
overflow_add-slot g c =
    let low : c.loop-index.index < slots_in c.args.groups.now.segments (group_at c.args.groups.now c.args.group) = omega (arith, c.loop-index-test.true, c.slots_of-index-end.ensures.count) in
    let is = index_is c.args.groups.now c.args.group c.loop-index.index c.requires.groups low in
    omega (arith, is.number, is.small)

pub test_slot-requires-clause-drives : goal.test_slot-requires-clause-drives
test_slot-requires-clause-drives g c = drives_kept c.args.groups.now c.loop-index.invariant.touched c.requires.drives

pub returns-then-not-test_slot-clause-some : goal.returns-then-not-test_slot-clause-some
returns-then-not-test_slot-clause-some g c = λ was. record {
  unsound = c.if-not-test_slot.ensures.unsound refl;
  lower = below_fades c.args.groups.now _ _ _ (kept_fades c.test_slot.ensures.touched) (c.loop-index.invariant.below was);
}

pub returns-then-not-test_slot-clause-touched : goal.returns-then-not-test_slot-clause-touched
returns-then-not-test_slot-clause-touched g c = keeps_trans c.loop-index.invariant.touched c.test_slot.ensures.touched

pub loop-index-preserved : goal.loop-index-preserved
loop-index-preserved g c = record {
  below = λ was. below_more c.args.groups.now _ (128 * c.args.group + c.loop-index.index) (128 * c.args.group + (c.loop-index.index + 1)) (omega arith) (c.if-not-test_slot.ensures.sound refl)
      (below_fades c.args.groups.now _ _ _ (kept_fades c.test_slot.ensures.touched) (c.loop-index.invariant.below was));
  touched = keeps_trans c.loop-index.invariant.touched c.test_slot.ensures.touched;
}

pub returns-clause-none : goal.returns-clause-none
returns-clause-none g c = λ was none.
    let is : c.loop-index.index ≡ slots_in c.args.groups.now.segments (group_at c.args.groups.now c.args.group) = omega (arith, c.loop-index.auto.index-end, c.loop-index-test.false, c.slots_of-index-end.ensures.count) in
    group_below c.args.groups.now _ c.args.group c.loop-index.index _ is (omega arith) (c.loop-index.invariant.below was)
