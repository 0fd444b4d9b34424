use Rattle.extent_groups.specs.Groups.{Agree}
use Rattle.tests_stores.proofs.starting_over.all_groups.Given as goal

abbrev pub invariant-loop-group : goal.invariant-loop-group
invariant-loop-group g l = Agree l.tables.groups l.tables.extents
