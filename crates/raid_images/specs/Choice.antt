-- Where the image that a table names is.
use Rattle.std.specs.Prelude.{◌≡◌, ℕ, List, Option, Some}
use Rattle.raid_images.specs.declared.choice.Choice.{Choice}
use Rattle.raid_images.specs.declared.choice.Choice.TheVariants.{Kept, Fresh, Neither}

-- the file that has the wanted digest: that of the name comes first
abbrev pub IsFileChoice : List ℕ → Option (List ℕ) → Option (List ℕ) → Choice → Type 0
IsFileChoice expected kept fresh Kept = kept ≡ Some expected
IsFileChoice expected kept fresh Fresh = (kept ≡ Some expected → ⊥) × (fresh ≡ Some expected)
IsFileChoice expected kept fresh Neither = (kept ≡ Some expected → ⊥) × (fresh ≡ Some expected → ⊥)
