use Rattle.std.proofs.Common.{refl}
use Rattle.extent_groups.proofs.Agreeing.{agree_of, rows_of_agree}
use Rattle.extent_groups.proofs.table.GroupTable.agrees.Goals as goal

pub returns-then-owns_its_extents : goal.returns-then-owns_its_extents
returns-then-owns_its_extents c = (
  λ h. agree_of _ _ c.drives-drives.ensures.wide (c.if-owns_its_extents.ensures.0 refl) (c.has_what_is_owned.ensures.0 h),
  λ a. c.has_what_is_owned.ensures.1 (rows_of_agree _ _ a),
)
