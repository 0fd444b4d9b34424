-- An array in a vault that one batch changes: before, afterwards, and what a stop leaves in between. Of the groups afterwards something is
-- given, as their sizes or their members.
use Rattle.std.specs.Prelude.{◌≡◌, ◌⊎◌, ℕ, Bool, List, [], ◌∷◌, length}
use Rattle.extents.specs.Condition.{Held}
use Rattle.extent_groups.specs.Cells.{Cells}
use Rattle.extent_groups.specs.Groups.{Groups}
use Rattle.unit_store.specs.declared.parts.Parts.{Parts}
use Rattle.tiered_array.specs.Views.{TiersView}
use Rattle.byte_store.specs.Lasting.{Shown}
use Rattle.vault.specs.Images.{Image, Matches, recovered}
use Rattle.vault.specs.Moments.{AreLogged}
use Rattle.vault.specs.declared.store.Stop.{Stop}
use Rattle.journaled_store.specs.Left.{HasBoth, IsLeftOf}
use Rattle.journaled_store.specs.Outlasting.{OpensAs, parts_of}
use Rattle.array_recovery.specs.Reopened.{EndsAt}
use Rattle.drive_rebuild.specs.Rebuilt.{AreMarkedLost, HasAllDrives}
use Rattle.array_batch.specs.Arrays.{HasArray, held_view}

-- drives in memory of an array that shows this, on so many drives, with such groups
pub record HasPartsWith (such : Groups → Type 0) (what : Shown) (drives : ℕ) (parts : Parts Held) : Type 0 where
  pub tiers : TiersView
  pub shows : HasBoth tiers what
  pub parts_are : parts_of tiers ≡ held_view parts
  pub many : length parts.drives.items ≡ drives
  pub are : such parts.groups

-- Units of an array that shows this, on so many drives, with such groups, and none past the ends of the drives.
pub record HasArrayWith (such : Groups → Type 0) (what : Shown) (drives units : ℕ) (c : Cells) : Type 0 where
  pub groups : Groups
  pub are : such groups
  pub array : HasArray what groups drives c
  pub ends : EndsAt [] drives units c

-- a vault has these, and each stop leaves them
pub record KeepsArrayWith {V : Type 0} (seen : V → Image) (may_leave : V → Stop → Image → Type 0) (such : Groups → Type 0) (what : Shown) (drives units : ℕ) (vault : V) : Type 0 where
  pub inside : HasArrayWith such what drives units (recovered (seen vault))
  pub durable : AreLogged seen may_leave [] vault

-- what a stop leaves of a change: the units of before, but for those of drives that aren't the array's, or those of afterwards
abbrev pub IsBeforeOrWith : List Bool → Cells → (Groups → Type 0) → Shown → (drives units : ℕ) → Image → Type 0
IsBeforeOrWith lost before such what drives units i = Matches lost before i ⊎ HasArrayWith such what drives units (recovered i)

-- A vault that has an array on so many drives that shows this, and no unit past the ends of the drives of before or of afterwards. A stop
-- leaves all of the journal, and of units only those of lost drives in doubt.
pub record CanChange {V : Type 0} (seen : V → Image) (may_leave : V → Stop → Image → Type 0) (what : Shown) (groups : Groups) (drives afterwards units : ℕ) (lost : List Bool) (vault : V) : Type 0 where
  pub left : IsLeftOf HasBoth what groups drives [] (recovered (seen vault))
  pub ends : EndsAt [] afterwards units (recovered (seen vault))
  pub lost_are : AreMarkedLost drives lost (recovered (seen vault))
  pub logged : AreLogged seen may_leave lost vault

-- a vault from which an array that shows this is opened, on so many drives, with such groups
abbrev pub OpensWith : {V X : Type 0} → (TiersView → X → Type 0) → (V → Image) → (V → Stop → Image → Type 0) → X → (Groups → Type 0) → (drives units : ℕ) → V → Type 0
OpensWith shows seen may_leave what such drives units vault = (g : Groups) × such g × HasAllDrives shows seen may_leave what g drives units vault

-- what a stop leaves of a change: an array that shows this is opened, the one of before or that of afterwards
abbrev pub OpensEither : {X : Type 0} → (TiersView → X → Type 0) → X → (groups : Groups) (drives : ℕ) → (such : Groups → Type 0) (afterwards : ℕ) → Image → Type 0
OpensEither shows what groups drives such afterwards i = OpensAs shows (what ∷ []) groups drives (recovered i)
    ⊎ ((g : Groups) × such g × OpensAs shows (what ∷ []) g afterwards (recovered i))
