-- The slots of made groups, of either class.
use Rattle.std.specs.Prelude.{◌≡◌, ℕ, ◌/◌, ◌%◌, ◌<◌, Bool, Some, None, List}
use Rattle.flat_machine.specs.declared.refusal.Refusal.{Refusal}
use Rattle.flat_machine.specs.declared.refusal.Refusal.TheVariants.{Gone}
use Rattle.extent_groups.specs.Groups.{Groups, group_at, slots_in}
use Rattle.extent_groups.specs.Cells.{Cells, cells}
use Rattle.extent_groups.specs.Missing.{missing_of, IsGone}
use Rattle.extent_groups.specs.Stores.{unit_of}
use Rattle.unit_store.specs.declared.parts.Parts.{Parts}

-- a slot of a made group
abbrev pub IsSlot : Groups → ℕ → Type 0
IsSlot groups slot = slot % 128 < slots_in groups.segments (group_at groups (slot / 128))

-- what the drives of the parts hold
abbrev pub cells_in : {D : Type 0} → (D → List (List ℕ)) → (D → Bool) → Parts D → Cells
cells_in units lost parts = cells units lost parts.drives.items

-- which drives of the parts are missing, by number
abbrev pub missing_in : {D : Type 0} → (D → Bool) → Parts D → ℕ → Bool
missing_in lost parts = missing_of lost parts.drives.items

-- the effective unit of the slot is these bytes, and the slot isn't gone
pub record HoldsUnit {D : Type 0} (units : D → List (List ℕ)) (lost : D → Bool) (parts : Parts D) (slot : ℕ) (bytes : List ℕ) : Type 0 where
  pub unit : unit_of parts.groups (cells_in units lost parts) slot ≡ Some bytes
  pub there : IsGone parts.groups (missing_in lost parts) slot → ⊥

-- the refusal names the slot, which is gone: it has no effective unit
pub record ReportsGone {D : Type 0} (units : D → List (List ℕ)) (lost : D → Bool) (parts : Parts D) (slot : ℕ) (refusal : Refusal) : Type 0 where
  pub reported : refusal ≡ Gone slot
  pub none : unit_of parts.groups (cells_in units lost parts) slot ≡ None
  pub gone : IsGone parts.groups (missing_in lost parts) slot
