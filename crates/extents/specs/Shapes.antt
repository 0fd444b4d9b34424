-- A shape against the four numbers that it is made of.
use Rattle.std.specs.Prelude.{◌≡◌, ℕ}
use Rattle.extents.specs.declared.shape.Shape.{Shape}
use Rattle.extents.specs.declared.shape.ShapeRefusal.{ShapeRefusal}
use Rattle.extents.specs.declared.shape.ShapeRefusal.TheVariants.{Range}

-- the shape has these sizes
pub record IsShapeOf (shape : Shape) (extents segments payload blocks : ℕ) : Type 0 where
  pub of_extents : shape.extents ≡ extents
  pub of_segments : shape.segments ≡ segments
  pub of_payload : shape.payload ≡ payload
  pub of_blocks : shape.blocks ≡ blocks

-- the number of the field that was refused
abbrev pub refused_field : ShapeRefusal → ℕ
refused_field (Range field) = field

-- the number of a refusal
abbrev pub refusal_number : ShapeRefusal → ℕ
refusal_number (Range field) = 1
