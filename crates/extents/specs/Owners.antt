-- Which group owns which extent of which drive.
use Rattle.std.specs.Prelude.{ℕ, ◌<◌, Option, None, List, [], ◌∷◌, ◌++◌, length, slice_get, slice_set, unwrap_or, is_some, is_none, count_by, position, replicate}

-- the owners of the extents, drive by drive, and how many extents each drive has
pub record Owners : Type 0 where
  pub extents : ℕ
  pub rows : List (List (Option ℕ))

-- the owners of one drive's extents, none where there is no such drive
abbrev pub owner_row : Owners → ℕ → List (Option ℕ)
owner_row owners drive = unwrap_or (slice_get owners.rows drive) []

-- the group that owns an extent, none where it is free or isn't there
abbrev pub owner_of : Owners → ℕ → ℕ → Option ℕ
owner_of owners drive extent = unwrap_or (slice_get (owner_row owners drive) extent) None

-- there is such an extent
pub record IsExtent (owners : Owners) (drive extent : ℕ) : Type 0 where
  pub within : drive < length owners.rows
  pub inside : extent < owners.extents

-- how many extents of a drive are in groups
abbrev pub load_of : Owners → ℕ → ℕ
load_of owners drive = count_by is_some (owner_row owners drive)

-- the lowest extent of a drive that no group owns
abbrev pub lowest_free_of : Owners → ℕ → Option ℕ
lowest_free_of owners drive = position is_none (owner_row owners drive)

-- the owners, with one extent given to another group or to none
abbrev pub with_owner : Owners → ℕ → ℕ → Option ℕ → Owners
with_owner owners drive extent owner =
    record owners { rows = slice_set owners.rows drive (slice_set (owner_row owners drive) extent owner) }

-- the owners of `drives` drives of `extents` extents, none of which is owned
abbrev pub all_free : ℕ → ℕ → Owners
all_free drives extents = record { extents = extents; rows = replicate drives (replicate extents None) }

-- the owners, with one drive more that is free throughout
abbrev pub with_drive : Owners → Owners
with_drive owners = record owners { rows = owners.rows ++ replicate owners.extents None ∷ [] }
