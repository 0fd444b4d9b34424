use Rattle.std.proofs.Common.{◌≡◌, drop}
use Rattle.extent_groups.specs.Groups.{AreThere, with_owners}
use Rattle.extent_groups.proofs.change.give.Given as goal

abbrev pub invariant-loop-member : goal.invariant-loop-member
invariant-loop-member l = (with_owners l.extents (drop l.member-index l.members) l.owner ≡ with_owners l.initial.extents l.members l.owner) × AreThere l.extents l.members
