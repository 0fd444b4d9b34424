-- The tables of an array to which nothing has happened.
use Rattle.std.specs.Prelude.{◌≡◌, ℕ, ◌+◌, ◌*◌, length, slice_index, vec_len}
use Rattle.extents.specs.Owners.{all_free}
use Rattle.extents.specs.Shapes.{IsShapeOf}
use Rattle.extents.specs.declared.shape.Shape.{Shape}
use Rattle.extents.specs.declared.shape.TheConstants.{HEADER_BYTES}
use Rattle.extent_groups.specs.Groups.{AreGroups, Agree}
use Rattle.flat_machine.specs.Groups.{IsEmpty}
use Rattle.slot_tables.specs.declared.tables.Tables.{Tables}

-- no group, owned extent, block with a record or place of a slot; and buffers of a unit's length and of two units'
pub record AreNew {C : Type 0} (shape : Shape) (drives : ℕ) (t : Tables C) : Type 0 where
  pub sizes : IsShapeOf shape t.groups.extents t.groups.segments t.groups.payload t.groups.blocks
  pub table : AreGroups t.groups
  pub empty : IsEmpty t.groups
  pub agree : Agree t.groups t.extents
  pub owners : t.extents ≡ all_free drives shape.extents
  pub keys : length t.keys.items ≡ shape.blocks
  pub zero : (b : ℕ) → slice_index t.keys.items b ≡ 0
  pub places : vec_len t.places ≡ 0
  pub unit : length t.unit.items ≡ HEADER_BYTES + shape.payload
  pub scratch : length t.scratch.items ≡ 2 * (HEADER_BYTES + shape.payload)
