-- What a read of a slot's unit leaves.
use Rattle.std.proofs.Common.{ℕ, Bool, List}
use Rattle.extents.specs.Failures.{Failures}
use Rattle.extent_groups.specs.Calls.{KeepsDrives, NoPlace, SameBut}
use Rattle.extent_groups.specs.Groups.{Groups, AreGroups}
use Rattle.extent_groups.specs.Stores.{AreDrives, HasMemberOn, ReadLeaves}
use Rattle.extent_groups.proofs.Losses.{kept_fades}
use Rattle.extent_groups.proofs.StoreCalls.{read_keeps, drives_kept}

-- reads of a group's units leave each slot's unit and what is sound
pub read_leaves : {D : Type 0} (units : D → List (List ℕ)) (lost : D → Bool) (failures : D → Failures) (t : Groups) (g : ℕ) (a b : List D) → AreGroups t → AreDrives units t a
    → KeepsDrives units lost failures NoPlace a b → SameBut (HasMemberOn t g) a b → ReadLeaves units lost failures t g a b
read_leaves units lost failures t g a b groups drives touched elsewhere = record {
  units_kept = λ s. (read_keeps t a b groups drives s (kept_fades touched) touched).all;
  sound = λ s. (read_keeps t a b groups drives s (kept_fades touched) touched).sound;
  touched = touched;
  elsewhere = elsewhere;
  drives = drives_kept t touched drives;
}
