-- What a backing holds, where that is known, and that it is the image of a drive.
use Rattle.std.specs.Prelude.{◌≡◌, ℕ, ◌+◌, ◌≤◌, List, Option, Some, None, length, take, drop, ◌++◌}
use Rattle.extents.specs.Units.{AreUnitsSized}
use Rattle.images.specs.Images.{IsImage}

-- the bytes with a piece written over them from `start` on
abbrev pub written_over : (start : ℕ) (piece bytes : List ℕ) → List ℕ
written_over start piece bytes = take start bytes ++ (piece ++ drop (start + length piece) bytes)

-- a piece was written over the bytes from `start` on, where they are known and it lies within them; what isn't known stays
-- unknown
pub record Overwrites (old : Option (List ℕ)) (start : ℕ) (piece : List ℕ) (new : Option (List ℕ)) : Type 0 where
  pub unknown : old ≡ None → new ≡ None
  pub over : (bytes : List ℕ) → old ≡ Some bytes → start + length piece ≤ length bytes → new ≡ Some (written_over start piece bytes)

-- the bytes, where they are known, are the image of these units of `size` bytes
abbrev pub HoldsImage : Option (List ℕ) → ℕ → List (List ℕ) → Type 0
HoldsImage known size units = (bytes : List ℕ) → known ≡ Some bytes → IsImage size bytes units

-- the bytes, where they are known, are the units' image
abbrev pub AreImageOf : Option (List ℕ) → List (List ℕ) → Type 0
AreImageOf known units = (size : ℕ) → AreUnitsSized size units → HoldsImage known size units
