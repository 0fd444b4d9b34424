-- The plan of a disk.
use Rattle.std.specs.Prelude.{◌≡◌, ℕ, ◌+◌, ◌*◌, ◌<◌, ◌≤◌}
use Rattle.disk_shape.specs.Plans.{slots_of}
use Rattle.disk_shape.specs.declared.plan.Plan.{Plan}

-- the plan of a disk: its blocks hold the disk's bytes, with less than a block to spare, and are fewer than the slots
pub record IsPlanOf (size block drives : ℕ) (p : Plan) : Type 0 where
  pub given : (p.size ≡ size) × (p.drives ≡ drives) × (p.shape.payload ≡ block)
  pub hold : size ≤ p.shape.blocks * block
  pub tight : p.shape.blocks * block < size + block
  pub room : p.shape.blocks + 1 ≤ slots_of p.members p.shape.segments p.groups
