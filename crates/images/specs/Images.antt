-- An image: the units of a drive next to each other, in address order.
use Rattle.std.specs.Prelude.{◌≡◌, ◌+◌, ◌*◌, ◌<◌, ℕ, List, Some, length, slice_get, slice_range}
use Rattle.extents.specs.Units.{AreUnitsSized}

-- each unit of an address below `count` is the run of `size` bytes from `address * size` on
abbrev pub AreFirst : (size count : ℕ) → List ℕ → List (List ℕ) → Type 0
AreFirst size count bytes units = (at : ℕ) → at < count → slice_get units at ≡ Some (slice_range bytes (at * size) (at * size + size))

-- the bytes are these units of `size` bytes next to each other, and nothing else
pub record IsImage (size : ℕ) (bytes : List ℕ) (units : List (List ℕ)) : Type 0 where
  pub long : length bytes ≡ length units * size
  pub each : AreFirst size (length units) bytes units

-- `count` units of `size` bytes, of which those below `at` lie in the bytes
pub record AreLoaded (size count at : ℕ) (bytes : List ℕ) (units : List (List ℕ)) : Type 0 where
  pub many : length units ≡ count
  pub sized : AreUnitsSized size units
  pub first : AreFirst size at bytes units

-- the bytes are the units below `at`
pub record AreStored (size at : ℕ) (bytes : List ℕ) (units : List (List ℕ)) : Type 0 where
  pub long : length bytes ≡ at * size
  pub first : AreFirst size at bytes units
