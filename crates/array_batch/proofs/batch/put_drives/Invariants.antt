use Rattle.std.proofs.Common.{◌≡◌, ◌<◌, ◌≤◌, ℕ, Some, length, slice_get}
use Rattle.extents.specs.Condition.{Held}
use Rattle.extent_groups.specs.declared.place.Place.{Place}
use Rattle.extent_groups.specs.Cells.{Cells, held}
use Rattle.extent_groups.specs.Planned.{after}
use Rattle.vault.specs.Images.{Image}
use Rattle.rotten_units.specs.Loaded.{OnlyRead}
use Rattle.array_batch.specs.Batched.{HasDriveUnits}
use Rattle.array_batch.proofs.batch.put_drives.Given as goal

-- the first drives' units are put, and no others
abbrev pub invariant-loop-number : goal.invariant-loop-number
invariant-loop-number g l = record {
  stays : g.V.Vault.known l.fn.vault → g.V.Vault.known l.vault;
  read : g.V.Vault.known l.fn.vault → OnlyRead g.V.Vault.seen g.V.Vault.may_leave g.V.Vault.moment g.V.Vault.left_since l.fn.vault l.vault;
  long : length l.drives ≡ length l.fn.drives;
  kept : (d : ℕ) → l.number ≤ d → slice_get l.drives d ≡ slice_get l.fn.drives d;
  first : g.V.Vault.known l.fn.vault → (d : ℕ) (m : Held) → d < l.number → slice_get l.fn.drives d ≡ Some m
      → HasDriveUnits d m.units (after (Image.cells (g.V.Vault.seen l.fn.vault)) l.batch);
  rest : (c : Cells) (x : Place) → l.number ≤ x.drive → held (after c l.batch) x ≡ held c x;
}
