-- An array that gives up its last drive, in a vault.
use Rattle.std.specs.Prelude.{◌≡◌, ◌≢◌, ◌⊎◌, ◌+◌, ◌-◌, ◌<◌, ℕ, Bool, false, Some, List, [], ◌∷◌, length, slice_get}
use Rattle.extents.specs.declared.shape.Shape.{Shape}
use Rattle.extent_groups.specs.Cells.{Cells}
use Rattle.extent_groups.specs.Groups.{Groups}
use Rattle.unit_store.specs.Views.{DriveView}
use Rattle.tiered_array.specs.Views.{TiersView}
use Rattle.byte_store.specs.Lasting.{Shown}
use Rattle.vault.specs.Images.{Image, Matches, is_lost, recovered}
use Rattle.vault.specs.Moments.{AreLogged}
use Rattle.vault.specs.declared.store.Stop.{Stop}
use Rattle.group_form.specs.Form.{HasGroups}
use Rattle.journaled_store.specs.Left.{HasBoth, IsLeftOf}
use Rattle.journaled_store.specs.Outlasting.{OpensAs, parts_of}
use Rattle.array_recovery.specs.Found.{IsTable, is_marked}
use Rattle.array_recovery.specs.Reopened.{EndsAt}
use Rattle.drive_rebuild.specs.Rebuilt.{AreMarkedLost, CanBeRebuilt}
use Rattle.array_expansion.specs.Expansion.{SameShapes}
use Rattle.array_batch.specs.Arrays.{HasArray, HaveSizes, MarksNone}

-- The table marks no drive but this one, at most. The drives out of use are those that it marks.
pub record MarksOnly (number : ℕ) (counts : List Bool) (c : Cells) : Type 0 where
  pub marks : List ℕ
  pub wide : length marks ≡ 16
  pub table : IsTable marks c
  pub others : (d : ℕ) → d < 16 → d ≢ number → slice_get marks d ≡ Some 0
  pub counts_are : (d : ℕ) → is_lost counts d ≡ is_marked marks d

-- Units of an array that shows this, with these groups on so many drives: those of each drive but the last, none of which is lost, lie at
-- its places, and there is a table with the groups.
pub record HasOthers (what : Shown) (groups : Groups) (drives : ℕ) (c : Cells) : Type 0 where
  pub tiers : TiersView
  pub shows : HasBoth tiers what
  pub groups_are : (parts_of tiers).groups ≡ groups
  pub many : length (parts_of tiers).drives ≡ drives
  pub alive : (d : ℕ) (v : DriveView) → d + 1 < drives → slice_get (parts_of tiers).drives d ≡ Some v → v.lost ≡ false
  pub units : (d at : ℕ) (v : DriveView) → d + 1 < drives → slice_get (parts_of tiers).drives d ≡ Some v → c d at ≡ slice_get v.units at
  pub table : HasGroups groups drives c
  pub marks : List ℕ
  pub marked : IsTable marks c

-- Units of an array on so many drives that shows this, with groups of the shape's sizes, of which each has the class and as many members as
-- before, a table of sixteen marks, and no unit past the ends of these drives.
pub record IsRemovedIn (what : Shown) (shape : Shape) (old : Groups) (drives units : ℕ) (c : Cells) : Type 0 where
  pub groups : Groups
  pub sizes : HaveSizes shape groups
  pub kept : SameShapes old groups
  pub array : HasArray what groups drives c
  pub wide : (marks : List ℕ) → IsTable marks c → length marks ≡ 16
  pub ends : EndsAt [] drives units c

-- A vault has these, and each stop leaves them, but for units of some drives that aren't the array's.
pub record IsRemoved {V : Type 0} (seen : V → Image) (may_leave : V → Stop → Image → Type 0) (what : Shown) (shape : Shape) (old : Groups) (drives units : ℕ) (vault : V) : Type 0 where
  pub inside : IsRemovedIn what shape old drives units (recovered (seen vault))
  pub counts : List Bool
  pub few : is_lost counts 16 ≡ false
  pub others : (d : ℕ) → d < drives → is_lost counts d ≡ false
  pub durable : AreLogged seen may_leave counts vault

-- what a stop leaves while a drive is removed: the units of before, but for those of lost drives, or those without the drive
abbrev pub IsBeforeOrRemoved : List Bool → Cells → Shown → Shape → Groups → (drives units : ℕ) → Image → Type 0
IsBeforeOrRemoved lost before what shape old drives units i = Matches lost before i ⊎ IsRemovedIn what shape old (drives - 1) units (recovered i)

-- A vault that has an array that shows this, and no unit past the ends of its drives. A stop leaves all of the journal, and of units only
-- those of lost drives in doubt.
pub record CanShrink {V : Type 0} (seen : V → Image) (may_leave : V → Stop → Image → Type 0) (what : Shown) (groups : Groups) (drives units : ℕ) (lost : List Bool) (vault : V) : Type 0 where
  pub left : IsLeftOf HasBoth what groups drives [] (recovered (seen vault))
  pub ends : EndsAt [] drives units (recovered (seen vault))
  pub lost_are : AreMarkedLost drives lost (recovered (seen vault))
  pub logged : AreLogged seen may_leave lost vault

-- A vault from which an array on so many drives is opened that shows this, now and after each stop, whichever of its drives are absent
-- then. The table marks no drive. What lies at the places of drives past these may be in doubt.
pub record IsWholeWithout {V X : Type 0} (shows : TiersView → X → Type 0) (seen : V → Image) (may_leave : V → Stop → Image → Type 0) (what : X) (shape : Shape) (old : Groups) (drives units : ℕ) (vault : V) : Type 0 where
  pub groups : Groups
  pub sizes : HaveSizes shape groups
  pub kept : SameShapes old groups
  pub sound : CanBeRebuilt shows seen may_leave what groups drives units vault
  pub unmarked : MarksNone (recovered (seen vault))
  pub leaves : (stop : Stop) (i : Image) → may_leave vault stop i → OpensAs shows (what ∷ []) groups drives (recovered i)

-- what a stop leaves while a drive is removed: an array that shows this is opened, the one of before or that without the drive
abbrev pub OpensBeforeOrWithout : {X : Type 0} → (TiersView → X → Type 0) → X → Shape → Groups → ℕ → Image → Type 0
OpensBeforeOrWithout shows what shape groups drives i = OpensAs shows (what ∷ []) groups drives (recovered i)
    ⊎ ((g : Groups) × HaveSizes shape g × SameShapes groups g × OpensAs shows (what ∷ []) g (drives - 1) (recovered i))
