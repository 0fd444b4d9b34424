use Rattle.std.proofs.Common.{arith}
use Rattle.extent_groups.proofs.GroupReads.{few_slots}
use Rattle.drive_rebuild.proofs.Scrubbing.{total_more}
use Rattle.drive_rebuild.proofs.scrub.slots_in.Goals as goal

pub loop-group-preserved : goal.loop-group-preserved
loop-group-preserved c = record {
  counted = λ are.
      let few = few_slots c.args.groups.now c.loop-group.group are in
      total_more c.args.groups.now c.loop-group.group c.loop-group.slots c.slots_of.result c.saturating_add-slots.result are (omega (arith, c.loop-group-test.true, c.loop-group.auto.group-end)) (c.loop-group.invariant.counted are)
      c.slots_of.ensures.count (omega (arith, c.saturating_add-slots.ensures, c.from.ensures, c.slots_of.ensures.count, few, c.loop-group.invariant.few are, c.loop-group-test.true, c.loop-group.auto.group-end));
  few = λ are.
      let few = few_slots c.args.groups.now c.loop-group.group are in
      omega (arith, c.saturating_add-slots.ensures, c.from.ensures, c.slots_of.ensures.count, few, c.loop-group.invariant.few are);
}
