-- The writes that a batch holds, by where their units lie among its bytes.
use Rattle.std.specs.Prelude.{◌≡◌, ◌≤◌, ℕ, Some, List, [], ◌∷◌, length, option_map, slice_get, slice_range}
use Rattle.extent_groups.specs.Planned.{Intended}
use Rattle.vault.specs.declared.batch.Entry.{Entry}

abbrev pub write_in : List ℕ → Entry → Intended
write_in units entry = record { place = entry.place; unit = slice_range units entry.from entry.to }

abbrev pub writes_in : List ℕ → List Entry → List Intended
writes_in units [] = []
writes_in units (entry ∷ entries) = write_in units entry ∷ writes_in units entries

-- each entry's unit lies inside the bytes
abbrev pub AreWithin : List ℕ → List Entry → Type 0
AreWithin units [] = Unit {0}
AreWithin units (entry ∷ entries) = (entry.from ≤ entry.to) × (entry.to ≤ length units) × AreWithin units entries

-- the write of this index has this unit
abbrev pub IsUnitOf : List ℕ → List Entry → ℕ → List ℕ → Type 0
IsUnitOf units entries index unit = option_map (λ (w : Intended). w.unit) (slice_get (writes_in units entries) index) ≡ Some unit
