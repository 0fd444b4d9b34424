-- Why a backing isn't opened.
use Rattle.std.specs.Prelude.{◌≡◌, ◌≢◌, ℕ, List, Option, Some, length}
use Rattle.extents.specs.declared.shape.Shape.{Shape}
use Rattle.images.specs.Refusals.{image_bytes}
use Rattle.file_drive.specs.declared.refusal.OpenRefusal.{OpenRefusal}
use Rattle.file_drive.specs.declared.refusal.OpenRefusal.TheVariants.{Memory, Length, Read}

-- the number of a refusal
abbrev pub refusal_number : OpenRefusal → ℕ
refusal_number Memory = 1
refusal_number Length = 2
refusal_number Read = 3

-- why a backing with these bytes isn't opened: where they are known, Memory says that their length fits, and Length that it
-- doesn't
abbrev pub RefusesFor : Shape → Option (List ℕ) → OpenRefusal → Type 0
RefusesFor shape known Memory = (bytes : List ℕ) → known ≡ Some bytes → length bytes ≡ image_bytes shape
RefusesFor shape known Length = (bytes : List ℕ) → known ≡ Some bytes → length bytes ≢ image_bytes shape
RefusesFor shape known Read = Unit {0}
