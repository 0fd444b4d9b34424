-- How the table keeps its groups.
use Rattle.std.specs.Prelude.{◌≡◌, ℕ, Option, List, map, option_map}
use Rattle.extents.specs.declared.shape.Shape.{Shape}
use Rattle.extent_groups.specs.declared.table.Kept.{Kept}
use Rattle.extent_groups.specs.Groups.{Group, Groups, AreGroups, parity_slots_of}

-- a group that is kept
abbrev pub group_of : Kept → Group
group_of kept = record { class = kept.class; members = kept.members.items }

-- the groups that are kept
abbrev pub groups_in : Shape → List (Option Kept) → Groups
groups_in shape kept = record {
  extents = shape.extents;
  segments = shape.segments;
  payload = shape.payload;
  blocks = shape.blocks;
  table = map (option_map group_of) kept;
}

-- what is true of what is kept: the groups are well formed, and next to them is kept how many slots each parity group has
pub record IsSoundTable (shape : Shape) (kept : List (Option Kept)) (parity_slots : List ℕ) : Type 0 where
  pub groups : AreGroups (groups_in shape kept)
  pub slots : parity_slots ≡ parity_slots_of (groups_in shape kept)
