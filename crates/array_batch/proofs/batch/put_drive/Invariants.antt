use Rattle.std.proofs.Common.{◌≡◌, ◌≢◌, ◌<◌, ◌≤◌, ℕ, slice_get}
use Rattle.extent_groups.specs.declared.place.Place.{Place}
use Rattle.extent_groups.specs.Cells.{Cells, held}
use Rattle.extent_groups.specs.Planned.{after}
use Rattle.vault.specs.Images.{Image}
use Rattle.rotten_units.specs.Loaded.{OnlyRead}
use Rattle.array_batch.specs.Batched.{KeepsDriveUnits}
use Rattle.array_batch.proofs.batch.put_drive.Given as goal

-- the first units are put, and no others
abbrev pub invariant-loop-address : goal.invariant-loop-address
invariant-loop-address g l = record {
  stays : g.V.Vault.known l.fn.vault → g.V.Vault.known l.vault;
  read : g.V.Vault.known l.fn.vault → OnlyRead g.V.Vault.seen g.V.Vault.may_leave g.V.Vault.moment g.V.Vault.left_since l.fn.vault l.vault;
  units : l.drive.units ≡ l.fn.drive.units;
  first : g.V.Vault.known l.fn.vault → KeepsDriveUnits l.number (Image.cells (g.V.Vault.seen l.fn.vault)) (after (Image.cells (g.V.Vault.seen l.fn.vault)) l.fn.batch)
      → (at : ℕ) → at < l.address → after (Image.cells (g.V.Vault.seen l.fn.vault)) l.batch l.number at ≡ slice_get l.fn.drive.units at;
  rest : (c : Cells) (at : ℕ) → l.address ≤ at → after c l.batch l.number at ≡ after c l.fn.batch l.number at;
  others : (c : Cells) (x : Place) → x.drive ≢ l.number → held (after c l.batch) x ≡ held (after c l.fn.batch) x;
}
