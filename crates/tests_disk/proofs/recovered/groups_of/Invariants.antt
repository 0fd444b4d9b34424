use Rattle.extent_groups.specs.Groups.{Agree}
use Rattle.tests_disk.proofs.recovered.groups_of.Given as goal

-- each extent is owned by the group that it is of
abbrev pub invariant-loop-group : goal.invariant-loop-group
invariant-loop-group g l = Agree l.groups l.extents
