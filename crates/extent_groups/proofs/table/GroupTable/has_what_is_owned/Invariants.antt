use Rattle.std.proofs.Common.{ℕ, ◌<◌}
use Rattle.extents.specs.Owners.{owner_row}
use Rattle.extent_groups.specs.Groups.{RowMatches}
use Rattle.extent_groups.proofs.table.GroupTable.has_what_is_owned.Given as goal

abbrev pub invariant-loop-drive : goal.invariant-loop-drive
invariant-loop-drive l = (d : ℕ) → d < l.drive → RowMatches l.self (owner_row l.extents d) d
