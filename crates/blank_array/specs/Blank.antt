-- The units of a new disk, and a vault that has them.
use Rattle.std.specs.Prelude.{◌≡◌, ◌*◌, ◌<◌, ◌≤◌, ℕ, Bool, false, Some, List, [], replicate}
use Rattle.extents.specs.Sizes.{extent_units}
use Rattle.extent_groups.specs.Cells.{Cells}
use Rattle.extent_groups.specs.Groups.{Groups}
use Rattle.extent_groups.specs.Stores.{unit_bytes}
use Rattle.flat_machine.specs.Groups.{AreSizes, GroupsStand}
use Rattle.byte_store.specs.Lasting.{Shown}
use Rattle.group_form.specs.Form.{HasFormPlaces, HasGroups}
use Rattle.vault.specs.Images.{Image, is_lost}
use Rattle.vault.specs.Moments.{AreLogged}
use Rattle.vault.specs.declared.store.Stop.{Stop}
use Rattle.array_recovery.specs.Found.{IsTable}
use Rattle.array_recovery.specs.Reopened.{EndsAt}

-- zeros, and no key of any block
abbrev pub zeros_shown : ℕ → Shown
zeros_shown size = record { bytes = replicate size 0; keys = [] }

-- how many units each drive has
abbrev pub unit_count : Groups → ℕ
unit_count groups = groups.extents * extent_units groups.segments

-- the groups are well formed, their sizes are an array's, and so many drives have their extents
pub record CanBeMade (groups : Groups) (drives : ℕ) : Type 0 where
  pub sizes : AreSizes groups
  pub least : 3 ≤ drives
  pub most : drives ≤ 16
  pub stands : GroupsStand groups drives

-- each unit of a drive is zeros, and past its end there is none. Of absent drives nothing is said.
pub record AreBlank (groups : Groups) (drives : ℕ) (absent : List Bool) (c : Cells) : Type 0 where
  pub each : (d at : ℕ) → d < drives → is_lost absent d ≡ false → at < unit_count groups → c d at ≡ Some (replicate (unit_bytes groups) 0)
  pub ends : EndsAt absent drives (unit_count groups) c

-- blank units, and a table that has the groups and marks no drive
pub record IsBlankArray (groups : Groups) (drives : ℕ) (absent : List Bool) (c : Cells) : Type 0 where
  pub units : AreBlank groups drives absent c
  pub marks : IsTable (replicate 16 0) c
  pub form : HasGroups groups drives c

-- A vault of blank units, with room in its table for groups. Its journal is empty, and a stop leaves these units.
pub record IsBlankVault {V : Type 0} (seen : V → Image) (may_leave : V → Stop → Image → Type 0) (groups : Groups) (drives : ℕ) (vault : V) : Type 0 where
  pub units : AreBlank groups drives [] (seen vault).cells
  pub marks : IsTable (replicate 16 0) (seen vault).cells
  pub places : HasFormPlaces (seen vault).cells
  pub empty : (seen vault).journal ≡ []
  pub logged : (lost : List Bool) → AreLogged seen may_leave lost vault
