use Rattle.std.proofs.Common.{◌≡◌, ◌<◌, ℕ, length}
use Rattle.extents.specs.Units.{AreUnitsSized}
use Rattle.extents.specs.declared.mem_drive.Condition.TheVariants.{Present}
use Rattle.vault.specs.Images.{Image}
use Rattle.vault.specs.Marks.{Has}
use Rattle.rotten_units.specs.Loaded.{IsReadOrNoted, KeepsNoted, NotesOnly, NotesRotten, OnlyRead, SameAttested}
use Rattle.rotten_units.proofs.load.fill.Given as goal

-- the first units are the vault's, or noted
abbrev pub invariant-loop-address : goal.invariant-loop-address
invariant-loop-address g l = record {
  stays : g.V.Vault.known l.fn.vault → g.V.Vault.known l.vault;
  read : g.V.Vault.known l.fn.vault → OnlyRead g.V.Vault.seen g.V.Vault.may_leave g.V.Vault.moment g.V.Vault.left_since l.fn.vault l.vault;
  attests : g.V.Vault.known l.fn.vault → SameAttested g.V.Vault.attested l.fn.vault l.vault;
  present : l.cache.condition ≡ Present;
  many : length l.cache.units ≡ length l.fn.cache.units;
  size : AreUnitsSized (length l.fn.unit) l.cache.units;
  long : length l.unit ≡ length l.fn.unit;
  kept : KeepsNoted (Has l.fn.rotten.marks.items) (Has l.rotten.marks.items);
  inside : NotesOnly (λ x. (x.drive ≡ l.drive) × (x.address < length l.fn.cache.units)) (Has l.fn.rotten.marks.items) (Has l.rotten.marks.items);
  rotten : g.V.Vault.known l.fn.vault → NotesRotten (g.V.Vault.attested l.fn.vault) (Has l.fn.rotten.marks.items) (Has l.rotten.marks.items);
  found : g.V.Vault.known l.fn.vault → (k : ℕ) → k < l.address
      → IsReadOrNoted (Has l.rotten.marks.items) (g.V.Vault.attested l.fn.vault) (Image.cells (g.V.Vault.seen l.fn.vault)) (record { drive = l.drive; address = k }) l.cache.units;
}
