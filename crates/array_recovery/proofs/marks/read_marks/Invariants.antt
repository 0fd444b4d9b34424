use Rattle.std.proofs.Common.{take}
use Rattle.extent_groups.specs.Cells.{Cells}
use Rattle.extent_groups.specs.Planned.{after}
use Rattle.vault.specs.Images.{Image, flat}
use Rattle.vault.specs.Moments.{AttestsNoMore}
use Rattle.array_recovery.specs.Found.{AreMarksIf, IsLastIfAttested, OnlyRead}
use Rattle.array_recovery.proofs.marks.read_marks.Given as goal

-- the marks after the first batches
abbrev pub invariant-loop-index : goal.invariant-loop-index
invariant-loop-index g l = record {
  stays : g.V.Vault.known l.fn.vault → g.V.Vault.known l.vault;
  read : g.V.Vault.known l.fn.vault → OnlyRead g.V.Vault.seen g.V.Vault.may_leave g.V.Vault.moment g.V.Vault.left_since l.fn.vault l.vault;
  attests : g.V.Vault.known l.fn.vault → AttestsNoMore g.V.Vault.attested l.fn.vault l.vault;
  marks : g.V.Vault.known l.fn.vault
      → AreMarksIf l.known l.marks (after (Image.cells (g.V.Vault.seen l.fn.vault)) (flat (take l.index (Image.journal (g.V.Vault.seen l.fn.vault)))));
  honest : g.V.Vault.known l.fn.vault → (written : Cells)
      → IsLastIfAttested (g.V.Vault.attested l.fn.vault) written (Image.cells (g.V.Vault.seen l.fn.vault)) (record { drive = 16; address = 0 })
      → AreMarksIf l.known l.marks (after written (flat (take l.index (Image.journal (g.V.Vault.seen l.fn.vault)))));
}
