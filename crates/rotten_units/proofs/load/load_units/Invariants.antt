use Rattle.std.proofs.Common.{◌≡◌, ◌+◌, ◌*◌, length}
use Rattle.extents.specs.Sizes.{extent_units}
use Rattle.extents.specs.declared.shape.TheConstants.{HEADER_BYTES}
use Rattle.extent_groups.specs.declared.place.Place.{Place}
use Rattle.vault.specs.Images.{Image}
use Rattle.vault.specs.Marks.{Has}
use Rattle.rotten_units.specs.Loaded.{AreFormed, AreReadOrNoted, IsInside, OnlyRead, SameAttested}
use Rattle.rotten_units.proofs.load.load_units.Given as goal

-- the first drives are loaded
abbrev pub invariant-loop-drive : goal.invariant-loop-drive
invariant-loop-drive g l = record {
  stays : g.V.Vault.known l.fn.vault → g.V.Vault.known l.vault;
  read : g.V.Vault.known l.fn.vault → OnlyRead g.V.Vault.seen g.V.Vault.may_leave g.V.Vault.moment g.V.Vault.left_since l.fn.vault l.vault;
  attests : g.V.Vault.known l.fn.vault → SameAttested g.V.Vault.attested l.fn.vault l.vault;
  long : length l.unit ≡ HEADER_BYTES + l.shape.payload;
  many : length l.caches.items ≡ l.drive;
  formed : AreFormed (l.shape.extents * extent_units l.shape.segments) (HEADER_BYTES + l.shape.payload) l.caches.items;
  inside : (x : Place) → Has l.rotten.marks.items x → IsInside l.drive (l.shape.extents * extent_units l.shape.segments) x;
  rotten : g.V.Vault.known l.fn.vault → (x : Place) → Has l.rotten.marks.items x → g.V.Vault.attested l.fn.vault x → ⊥;
  found : g.V.Vault.known l.fn.vault
      → AreReadOrNoted (Has l.rotten.marks.items) (g.V.Vault.attested l.fn.vault) l.lost (Image.cells (g.V.Vault.seen l.fn.vault)) l.caches.items;
}
