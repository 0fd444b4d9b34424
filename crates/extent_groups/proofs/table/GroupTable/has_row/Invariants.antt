use Rattle.std.proofs.Common.{◌≡◌, ℕ, ◌<◌, Some}
use Rattle.std.specs.Prelude.{slice_get}
use Rattle.extent_groups.specs.Groups.{members_of, HasMemberAt}
use Rattle.extent_groups.proofs.table.GroupTable.has_row.Given as goal

abbrev pub invariant-loop-extent : goal.invariant-loop-extent
invariant-loop-extent l = (e g : ℕ) → e < l.extent → slice_get l.row e ≡ Some (Some g) → HasMemberAt (members_of l.self g) l.drive e
