use Rattle.std.proofs.Common.{◌≡◌, drop}
use Rattle.std.specs.List.{list_any}
use Rattle.extent_groups.specs.Faults.{is_owned}
use Rattle.extent_groups.proofs.change.is_any_owned.Given as goal

abbrev pub invariant-loop-member : goal.invariant-loop-member
invariant-loop-member l = list_any (is_owned l.extents) (drop l.member-index l.members) ≡ list_any (is_owned l.extents) l.members
