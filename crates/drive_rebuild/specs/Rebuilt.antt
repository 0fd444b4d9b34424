-- When a vault has an array of which no drive is lost.
use Rattle.std.specs.Prelude.{◌≡◌, ◌⊎◌, ◌<◌, ◌≤◌, ℕ, Bool, false, is_some, Some, List, [], ◌∷◌, length, slice_get}
use Rattle.extent_groups.specs.declared.place.Place.{Place}
use Rattle.extent_groups.specs.Planned.{after}
use Rattle.extent_groups.specs.Groups.{AreGroups, Groups}
use Rattle.extent_groups.specs.Cells.{Cells, cells, held}
use Rattle.extent_groups.specs.Stores.{AreDrives, AreSound}
use Rattle.unit_store.specs.Views.{DriveView, drive_lost, drive_units}
use Rattle.tiered_array.specs.Views.{TiersView}
use Rattle.vault.specs.Images.{Image, Matches, SameOn, is_lost, recovered}
use Rattle.vault.specs.Moments.{AreLogged}
use Rattle.vault.specs.declared.store.Stop.{Stop}
use Rattle.journaled_store.specs.Left.{IsLeftOf}
use Rattle.journaled_store.specs.Outlasting.{OpensAs}
use Rattle.journaled_store.specs.Steps.{table_write}
use Rattle.array_recovery.specs.Found.{IsTable, is_marked}
use Rattle.array_recovery.specs.Reopened.{EndsAt, IsSoundFor, marked}
use Rattle.drive_rebuild.specs.Written.{IsOnlyMarked, unmarked}
pub use Rattle.unit_repair.specs.Mended.{AreVerified}

-- An image with a drive's new units: the units of before, but for those of lost drives, which are sound with those of the drive, and a
-- table that doesn't mark it any more.
pub record IsReplacedIn (groups : Groups) (drives units number : ℕ) (lost : List Bool) (before : Cells) (i : Image) : Type 0 where
  pub marks : List ℕ
  pub table : IsTable marks before
  pub wide : length marks ≡ 16
  pub only : IsOnlyMarked marks drives number
  pub ready : Cells
  pub same : SameOn lost ready before
  pub there : (x : Place) → x.drive < drives → is_some (held ready x) ≡ is_some (held before x)
  pub verified : AreVerified groups drives units ready
  pub matches : Matches (marked (unmarked marks number)) (after ready (table_write (unmarked marks number) ∷ [])) i

-- The drives that the table marks are lost, and no others of the first drives are. The table is on none of them.
pub record AreMarkedLost (drives : ℕ) (lost : List Bool) (c : Cells) : Type 0 where
  pub table : is_lost lost 16 ≡ false
  pub each : (marks : List ℕ) → IsTable marks c → (d : ℕ) → d < drives → is_lost lost d ≡ is_marked marks d
  pub rest : (marks : List ℕ) → IsTable marks c → (d : ℕ) → is_lost lost d ≡ false → is_marked marks d ≡ false

-- what a stop leaves while a drive is replaced: the units of before, but for those of lost drives, or those with the drive's new ones
abbrev pub IsBeforeOrReplaced : Groups → (drives units number : ℕ) → List Bool → Cells → Image → Type 0
IsBeforeOrReplaced groups drives units number lost before i = Matches lost before i ⊎ IsReplacedIn groups drives units number lost before i

-- a drive was replaced, and each stop leaves that
pub record IsReplaced {V : Type 0} (seen : V → Image) (may_leave : V → Stop → Image → Type 0) (groups : Groups) (drives units number : ℕ) (lost : List Bool) (before : Cells) (vault : V) : Type 0 where
  pub inside : IsReplacedIn groups drives units number lost before (seen vault)
  pub durable : AreLogged seen may_leave (marked (unmarked inside.marks number)) vault

-- A vault from which an array that shows this is opened now and after each stop, whichever of its drives are absent then. The table
-- marks none of them.
pub record HasAllDrives {V X : Type 0} (shows : TiersView → X → Type 0) (seen : V → Image) (may_leave : V → Stop → Image → Type 0) (what : X) (groups : Groups) (drives units : ℕ) (vault : V) : Type 0 where
  pub sound : IsSoundFor shows seen may_leave what groups drives units [] vault
  pub none_marked : (d : ℕ) → d < drives → is_marked sound.left.kept.marks d ≡ false
  pub leaves : (stop : Stop) (i : Image) → may_leave vault stop i → OpensAs shows (what ∷ []) groups drives (recovered i)

-- A vault from which an array that shows this is opened, and which has no unit past the ends of the drives. A stop leaves all of the
-- journal, and of units only those of marked drives in doubt: as after `settle`. What the array shows is given, as for `IsLeftOf`.
pub record CanBeRebuilt {V X : Type 0} (shows : TiersView → X → Type 0) (seen : V → Image) (may_leave : V → Stop → Image → Type 0) (what : X) (groups : Groups) (drives units : ℕ) (vault : V) : Type 0 where
  pub left : IsLeftOf shows what groups drives [] (recovered (seen vault))
  pub ends : EndsAt [] drives units (recovered (seen vault))
  pub lost : List Bool
  pub lost_are : AreMarkedLost drives lost (recovered (seen vault))
  pub logged : AreLogged seen may_leave lost vault
