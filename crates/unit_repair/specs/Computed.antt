-- When rotten units are computed in memory.
use Rattle.std.specs.Prelude.{◌≡◌, ◌<◌, ℕ, Some, List, slice_get}
use Rattle.extents.specs.Condition.{Held}
use Rattle.extents.specs.declared.mem_drive.Condition.TheVariants.{Present}
use Rattle.extent_groups.specs.declared.place.Place.{Place}
use Rattle.extent_groups.specs.Calls.{KeepsDrives}
use Rattle.extent_groups.specs.Cells.{Cells, held}
use Rattle.extent_groups.specs.Groups.{Groups}
use Rattle.extent_groups.specs.Layout.{IsOf}
use Rattle.extent_groups.specs.Stores.{AreDrives, unit_bytes}
use Rattle.extent_groups.specs.Units.{IsSoundAt, Site, site_of}
use Rattle.unit_store.specs.Memory.{held_failures, held_lost, held_units}
use Rattle.unit_store.specs.Slots.{cells_in}
use Rattle.unit_store.specs.declared.parts.Parts.{Parts}
use Rattle.vault.specs.Images.{Image}
use Rattle.rotten_units.specs.Rows.{AreNotedOnce, IsPlaceUsed}
use Rattle.rotten_units.specs.Written.{IsKeptOrFrom}

-- drives in memory that answer
abbrev pub Answer : List Held → Type 0
Answer drives = (d : ℕ) (m : Held) → slice_get drives d ≡ Some m → m.condition ≡ Present

-- a slot is sound, if a place of its copies, or of its row, is noted
abbrev pub IsSoundIfNoted : (Place → Type 0) → Groups → Cells → ℕ → Type 0
IsSoundIfNoted noted groups c slot = (site : Site) → site_of groups slot ≡ Some site → (x : Place) → IsOf site x → noted x → IsSoundAt (unit_bytes groups) c site

-- the same of each slot below one, and of all slots
abbrev pub AreSoundIfNotedBelow : (Place → Type 0) → Groups → Cells → ℕ → Type 0
AreSoundIfNotedBelow noted groups c end = (slot : ℕ) → slot < end → IsSoundIfNoted noted groups c slot

abbrev pub AreSoundIfNoted : (Place → Type 0) → Groups → Cells → Type 0
AreSoundIfNoted noted groups c = (slot : ℕ) → IsSoundIfNoted noted groups c slot

-- The noted units in memory were computed, of each pair of copies and of each row one at most, and their slots are sound. No other unit was
-- written.
pub record IsComputed (noted : Place → Type 0) (old new : Parts Held) : Type 0 where
  pub once : AreNotedOnce noted old.groups
  pub kept : KeepsDrives held_units held_lost held_failures noted old.drives.items new.drives.items
  pub fit : AreDrives held_units old.groups new.drives.items
  pub sound : AreSoundIfNoted noted old.groups (cells_in held_units held_lost new)

-- the units of the groups in memory are these, but for noted ones
abbrev pub SameButNoted : (Place → Type 0) → Groups → (memory written : Cells) → Type 0
SameButNoted noted groups memory written = (x : Place) → IsPlaceUsed groups x → (noted x → ⊥) → held memory x ≡ held written x

-- Of writes at noted places no other unit of the groups is attested than before, but for those that are as they were written last.
abbrev pub WroteRight : {V : Type 0} (seen : V → Image) (attested : V → Place → Type 0) (noted : Place → Type 0) (groups : Groups) (written : Cells) (old new : V) → Type 0
WroteRight seen attested noted groups written old new =
    (x : Place) → IsPlaceUsed groups x → attested new x → IsKeptOrFrom (attested old) noted written (seen old).cells (seen new).cells x
