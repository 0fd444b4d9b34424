-- What the crate's own calls say of a world's tables.
use Rattle.std.specs.Prelude.{◌≡◌, ℕ, ◌<◌, true}
use Rattle.extent_groups.specs.declared.class.Class.{Class}
use Rattle.extent_groups.specs.Stores.{IsSlotOf}
use Rattle.unit_store.specs.Views.{lost_of}
use Rattle.slot_tables.specs.Views.{ArrayView, WorldView, kept_at, hand_at, key_at, has_no_holder}
use Rattle.tiered_array.specs.Room.{IsThere}

-- nobody holds the slot
abbrev pub IsFreeHere : WorldView → ℕ → Type 0
IsFreeHere w slot = has_no_holder (kept_at w.array slot) (hand_at w.hands slot) ≡ true

-- nobody holds the slot, and it is of a group of this class
abbrev pub IsFreeOf : Class → WorldView → ℕ → Type 0
IsFreeOf class w slot = IsSlotOf class w.array.parts.groups slot × IsFreeHere w slot

-- the block is one of the array's, and the unit at its newest place isn't gone
abbrev pub IsThereHere : ArrayView → ℕ → Type 0
IsThereHere a b = (b < a.parts.groups.blocks) × IsThere a.parts.groups (lost_of a.parts) (key_at a) b
