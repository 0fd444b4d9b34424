use Rattle.extent_groups.specs.Groups.{Agree}
use Rattle.tests_stores.proofs.plans.a_lost_drive_is_emptied_group_by_group.Given as goal

abbrev pub invariant-loop-group : goal.invariant-loop-group
invariant-loop-group g l = Agree l.tables.groups l.tables.extents
