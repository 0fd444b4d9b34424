use Rattle.extent_groups.specs.Groups.{Agree}
use Rattle.raid_disk.proofs.opened.groups_of.Given as goal

-- each extent is owned by the group that it is of
abbrev pub invariant-loop-group : goal.invariant-loop-group
invariant-loop-group l = Agree l.groups l.extents
