-- Which slots are sound, and which is the lowest that isn't.
use Rattle.std.specs.Prelude.{◌≡◌, ℕ, ◌<◌, Bool, Some}
use Rattle.std.specs.Bool.{MatchBool}
use Rattle.extent_groups.specs.Groups.{Groups}
use Rattle.extent_groups.specs.Cells.{Cells}
use Rattle.extent_groups.specs.Units.{Site, site_of, IsSoundAt}
use Rattle.extent_groups.specs.Stores.{unit_bytes}

-- the slot is sound: its site is, if it has one
abbrev pub IsSoundSlot : Groups → Cells → ℕ → Type 0
IsSoundSlot groups c slot = (site : Site) → site_of groups slot ≡ Some site → IsSoundAt (unit_bytes groups) c site

-- the slot has a site, and that isn't sound
abbrev pub IsUnsoundSlot : Groups → Cells → ℕ → Type 0
IsUnsoundSlot groups c slot = (site : Site) × (site_of groups slot ≡ Some site) × (IsSoundAt (unit_bytes groups) c site → ⊥)

-- the answer says whether the slot is sound
abbrev pub IsAnswer : Groups → Cells → ℕ → Bool → Type 0
IsAnswer groups c slot answer = MatchBool answer (IsSoundSlot groups c slot) (IsUnsoundSlot groups c slot)

-- every slot below this one is sound
abbrev pub AreSoundBelow : Groups → Cells → ℕ → Type 0
AreSoundBelow groups c end = (slot : ℕ) → slot < end → IsSoundSlot groups c slot

-- the slot isn't sound, and every lower one is
pub record IsFirstUnsound (groups : Groups) (c : Cells) (slot : ℕ) : Type 0 where
  pub unsound : IsUnsoundSlot groups c slot
  pub lower : AreSoundBelow groups c slot
