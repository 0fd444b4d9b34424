-- A new array represents the new flat state.
use Rattle.std.proofs.Common.{◌≡◌, ◌≤◌, length, refl, sym, ◌∙◌, subst, arith, None}
use Rattle.extents.specs.declared.shape.Shape.{Shape}
use Rattle.extents.specs.Shapes.{IsShapeOf}
use Rattle.extents.specs.Sizes.{IsExtentCount, IsSegmentCount, IsPayloadSize, IsBlockCount}
use Rattle.extent_groups.specs.Groups.{Groups}
use Rattle.extent_groups.proofs.Fresh.{free_groups, no_members}
use Rattle.unit_store.specs.Views.{lost_of, failed_of, drive_cells}
use Rattle.unit_store.proofs.Shows.{shows_none}
use Rattle.flat_machine.specs.Groups.{AreSizes}
use Rattle.flat_machine.specs.Flat.{new_flat}
use Rattle.flat_machine.specs.History.{IsHistory}
use Rattle.flat_machine.proofs.Keeps.{new_history}
use Rattle.slot_tables.specs.Views.{Nothing, Moving, Newest, Unmade, ArrayView, key_at, IsWhole, IsNew}
use Rattle.slot_tables.specs.Represents.{ShowsArray}

pub new_whole : (a : ArrayView) → IsNew a → AreSizes a.parts.groups → IsWhole a
new_whole a new sizes = record {
  room = new.room;
  blocks = sizes.some_blocks.1;
  fit = λ b. let e = new.keys b in omega arith;
  keys = λ b some. let e = new.keys b in absurd (omega arith);
  newest = λ b some. let e = new.keys b in absurd (omega arith);
  only = λ s b is. let bad : Nothing ≡ Newest b = sym (new.kept s) ∙ is in absurd (cc);
  moving = λ s r k is. let bad : Nothing ≡ Moving r k = sym (new.kept s) ∙ is in absurd (cc);
  there = λ s kept made. absurd (kept (new.kept s));
  unmade = λ s is. let bad : Nothing ≡ Unmade = sym (new.kept s) ∙ is in absurd (cc);
  groups = record {
    table = free_groups a.parts.groups new.empty.free new.empty.numbers sizes.some_segments.0 sizes.some_segments.1;
    there = λ g k m at. absurd (no_members a.parts.groups g k m (new.empty.free g) at);
  };
  agree = new.agree;
  rows = new.rows;
  wide = new.wide;
  drives = new.drives;
}

-- the sizes of a shape are within their limits
pub shape_sizes : (z : Shape) (g : Groups) → IsShapeOf z g.extents g.segments g.payload g.blocks → AreSizes g
shape_sizes z g is = record {
  some_extents = subst IsExtentCount is.of_extents z.in_range.some_extents;
  some_segments = subst IsSegmentCount is.of_segments z.in_range.some_segments;
  some_payload = subst IsPayloadSize is.of_payload z.in_range.some_payload;
  some_blocks = subst IsBlockCount is.of_blocks z.in_range.some_blocks;
}

-- the state of a new array
pub new_shows : (a : ArrayView) → IsNew a → AreSizes a.parts.groups → 3 ≤ length a.parts.drives → length a.parts.drives ≤ 16
    → ShowsArray a (new_flat a.parts.groups (length a.parts.drives) (lost_of a.parts) (failed_of a.parts))
new_shows a new sizes least most = record {
  history = subst (IsHistory (new_flat a.parts.groups (length a.parts.drives) (lost_of a.parts) (failed_of a.parts))) (sym keys_are)
      (new_history a.parts.groups (length a.parts.drives) (lost_of a.parts) (failed_of a.parts) sizes new.empty least most);
  units = shows_none a.parts.groups (drive_cells a.parts) (λ _. None) new.empty.free;
  tables = record {
    groups = refl;
    drives = refl;
    lost = refl;
    failures = refl;
    log = sym new.log;
    slots = λ s. rw (new.kept s) (record { blocks = λ b. refl; shut = λ g. refl; waits = refl });
  };
}
  where
    keys_are : key_at a ≡ (λ _. 0)
    keys_are = λ i b. new.keys b i
