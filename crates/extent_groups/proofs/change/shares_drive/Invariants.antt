use Rattle.std.proofs.Common.{◌≡◌, drop}
use Rattle.extent_groups.specs.Faults.{shares_drive}
use Rattle.extent_groups.proofs.change.shares_drive.Given as goal

abbrev pub invariant-loop-at : goal.invariant-loop-at
invariant-loop-at l = shares_drive (drop l.at l.members) ≡ shares_drive l.members
