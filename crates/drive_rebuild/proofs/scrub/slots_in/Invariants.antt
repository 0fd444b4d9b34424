use Rattle.std.proofs.Common.{◌≡◌, ◌*◌, ◌≤◌, take}
use Rattle.std.specs.List.{sum_by}
use Rattle.extent_groups.specs.Groups.{AreGroups, slots_in}
use Rattle.drive_rebuild.proofs.scrub.slots_in.Given as goal

abbrev pub invariant-loop-group : goal.invariant-loop-group
invariant-loop-group l = record {
  counted : AreGroups l.groups → l.slots ≡ sum_by (slots_in l.groups.segments) (take l.group l.groups.table);
  few : AreGroups l.groups → l.slots ≤ 128 * l.group;
}
