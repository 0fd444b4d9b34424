use Rattle.extent_groups.specs.Groups.{Agree}
use Rattle.tests_stores.proofs.plans.loads_are_evened_onto_a_new_drive.Given as goal

abbrev pub invariant-loop-group : goal.invariant-loop-group
invariant-loop-group g l = Agree l.tables.groups l.tables.extents

abbrev pub invariant-loop-group-2 : goal.invariant-loop-group-2
invariant-loop-group-2 g l = Agree l.tables.groups l.tables.extents
