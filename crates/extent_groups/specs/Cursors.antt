-- Slots with where they lie.
use Rattle.std.specs.Prelude.{◌≡◌, ℕ, ◌%◌}
use Rattle.extent_groups.specs.declared.cursor.MirroredAt.{MirroredAt}
use Rattle.extent_groups.specs.declared.cursor.ParityAt.{ParityAt}
use Rattle.extent_groups.specs.Geometry.{copies_of, stripe_of}

-- the copies are those of the slot's index, in a group of n members
abbrev pub IsMirroredAt : ℕ → MirroredAt → Type 0
IsMirroredAt n at = at.copies ≡ copies_of n (at.slot % 128)

-- the stripe is that of the slot's index, in a group of n members
abbrev pub IsParityAt : ℕ → ParityAt → Type 0
IsParityAt n at = at.stripe ≡ stripe_of n (at.slot % 128)
