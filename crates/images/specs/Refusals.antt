-- Why an image isn't loaded.
use Rattle.std.specs.Prelude.{◌≡◌, ◌≢◌, ◌+◌, ◌*◌, ℕ}
use Rattle.extents.specs.declared.shape.Shape.{Shape}
use Rattle.extents.specs.declared.shape.TheConstants.{HEADER_BYTES}
use Rattle.extents.specs.Sizes.{extent_units}
use Rattle.images.specs.declared.refusal.ImageRefusal.{ImageRefusal}
use Rattle.images.specs.declared.refusal.ImageRefusal.TheVariants.{Memory, Length}

-- the number of a refusal
abbrev pub refusal_number : ImageRefusal → ℕ
refusal_number Memory = 1
refusal_number Length = 2

-- how long the image of a drive of this shape is
abbrev pub image_bytes : Shape → ℕ
image_bytes shape = shape.extents * extent_units shape.segments * (HEADER_BYTES + shape.payload)

-- why an image of this length isn't loaded: out of memory only where the length fits, and Length only where it doesn't
abbrev pub RefusesFor : Shape → ℕ → ImageRefusal → Type 0
RefusesFor shape long Memory = long ≡ image_bytes shape
RefusesFor shape long Length = long ≢ image_bytes shape
