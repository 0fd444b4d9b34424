-- When rotten units are mended: each unit of the groups is again the one that was written last.
use Rattle.std.specs.Prelude.{◌≡◌, ◌<◌, ◌≤◌, ℕ, false, Some, List, [], length, slice_get}
use Rattle.extent_groups.specs.declared.place.Place.{Place}
use Rattle.extent_groups.specs.Groups.{AreGroups, Groups}
use Rattle.extent_groups.specs.Cells.{Cells, cells, held}
use Rattle.extent_groups.specs.Stores.{AreDrives, AreSound}
use Rattle.unit_store.specs.Views.{DriveView, drive_lost, drive_units}
use Rattle.vault.specs.Images.{Alike, Image}
use Rattle.vault.specs.declared.store.Stop.{Stop}
use Rattle.rotten_units.specs.Rows.{IsPlaceUsed, SameUsed}

-- So many drives, each with this many units, lie in a vault, and all slots of the groups are sound: none is lost, copies are equal,
-- and rows add up to zero.
pub record AreVerified (groups : Groups) (drives units : ℕ) (c : Cells) : Type 0 where
  pub views : List DriveView
  pub many : length views ≡ drives
  pub few : length views ≤ 16
  pub alive : (d : ℕ) (v : DriveView) → slice_get views d ≡ Some v → v.lost ≡ false
  pub long : (d : ℕ) (v : DriveView) → slice_get views d ≡ Some v → length v.units ≡ units
  pub lies : (d at : ℕ) (v : DriveView) → slice_get views d ≡ Some v → at < length v.units → c d at ≡ slice_get v.units at
  pub formed : AreGroups groups
  pub fit : AreDrives drive_units groups views
  pub sound : AreSound groups (cells drive_units drive_lost views)

-- A drive returns what was last written, or nothing, or bytes that aren't as their digest says: each unit of the first drives that is
-- attested is the one that was written last.
abbrev pub AttestsWritten : (attested : Place → Type 0) (drives : ℕ) → Cells → Cells → Type 0
AttestsWritten attested drives written now = (x : Place) → x.drive < drives → attested x → held now x ≡ held written x

-- the same of each unit of the groups that is attested
abbrev pub AttestsUsed : (groups : Groups) (attested : Place → Type 0) → Cells → Cells → Type 0
AttestsUsed groups attested written now = (x : Place) → IsPlaceUsed groups x → attested x → held now x ≡ held written x

-- the places that may be written: those of the first drives' units, each with this many, that aren't attested
abbrev pub MayBeMended : (attested : Place → Type 0) (drives units : ℕ) → Place → Type 0
MayBeMended attested drives units x = (x.drive < drives) × (x.address < units) × (attested x → ⊥)

-- the journal is empty, and each stop leaves what calls find
pub record IsAtRest {V : Type 0} (seen : V → Image) (may_leave : V → Stop → Image → Type 0) (vault : V) : Type 0 where
  pub empty : (seen vault).journal ≡ []
  pub leaves : (stop : Stop) (i : Image) → may_leave vault stop i → Alike i (seen vault)

-- each stop leaves the units that calls find
abbrev pub LeavesUnits : {V : Type 0} → (V → Image) → (V → Stop → Image → Type 0) → V → Type 0
LeavesUnits seen may_leave vault = (stop : Stop) (i : Image) (x : Place) → may_leave vault stop i → held i.cells x ≡ held (seen vault).cells x

-- The units of the groups are those that were written last, of which none is lost and all slots are sound, and each stop leaves that. All units of
-- the drives are attested.
pub record IsMended {V : Type 0} (seen : V → Image) (may_leave : V → Stop → Image → Type 0) (attested : V → Place → Type 0) (groups : Groups) (drives units : ℕ) (written : Cells) (vault : V) : Type 0 where
  pub rest : IsAtRest seen may_leave vault
  pub verified : AreVerified groups drives units (seen vault).cells
  pub same : SameUsed groups (seen vault).cells written
  pub each : (x : Place) → x.drive < drives → x.address < units → attested vault x
