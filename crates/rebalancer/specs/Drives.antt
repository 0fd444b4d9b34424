-- Which drives an extent may come from or go to.
use Rattle.std.specs.Prelude.{◌≡◌, ℕ, Bool, false, Some, List, IsSome, slice_get}
use Rattle.extents.specs.Owners.{Owners, IsExtent, lowest_free_of}

-- there is such a drive, and it isn't lost
pub record IsPresent (owners : Owners) (lost : List Bool) (drive : ℕ) : Type 0 where
  pub there : IsExtent owners drive 0
  pub sound : slice_get lost drive ≡ Some false

-- a drive that is present and has an extent that is free
pub record HasFreeExtent (owners : Owners) (lost : List Bool) (drive : ℕ) : Type 0 where
  pub present : IsPresent owners lost drive
  pub free : IsSome (lowest_free_of owners drive)
