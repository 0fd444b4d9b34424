use Rattle.std.proofs.Common.{◌≡◌, length}
use Rattle.extent_groups.specs.Cells.{Cells}
use Rattle.vault.specs.Images.{Image}
use Rattle.vault.specs.Moments.{AttestsNoMore}
use Rattle.group_form.specs.Form.{AreFormLastIfAttested}
use Rattle.group_form.specs.Reading.{AreKnownOf, OnlyReadsVault}
use Rattle.group_form.proofs.table.load_units.Given as goal

-- the first units are loaded
abbrev pub invariant-loop-index : goal.invariant-loop-index
invariant-loop-index g l = record {
  stays : g.V.Vault.known l.fn.vault → g.V.Vault.known l.vault;
  read : g.V.Vault.known l.fn.vault → OnlyReadsVault g.V.Vault.seen g.V.Vault.may_leave g.V.Vault.moment g.V.Vault.left_since l.fn.vault l.vault;
  many : length l.units.items ≡ l.index;
  attests : g.V.Vault.known l.fn.vault → AttestsNoMore g.V.Vault.attested l.fn.vault l.vault;
  units : g.V.Vault.known l.fn.vault → (written : Cells) → AreFormLastIfAttested (g.V.Vault.attested l.fn.vault) written (Image.cells (g.V.Vault.seen l.fn.vault))
      → AreKnownOf l.units.items written;
}
