use Rattle.std.proofs.Common.{take}
use Rattle.extent_groups.specs.Cells.{Cells}
use Rattle.extent_groups.specs.Planned.{after}
use Rattle.vault.specs.Images.{Image, flat}
use Rattle.group_form.specs.Reading.{AreKnownOf, OnlyReadsVault}
use Rattle.group_form.proofs.table.lay_journal.Given as goal

-- the writes of the first batches are made
abbrev pub invariant-loop-index : goal.invariant-loop-index
invariant-loop-index g l = record {
  stays : g.V.Vault.known l.fn.vault → g.V.Vault.known l.vault;
  read : g.V.Vault.known l.fn.vault → OnlyReadsVault g.V.Vault.seen g.V.Vault.may_leave g.V.Vault.moment g.V.Vault.left_since l.fn.vault l.vault;
  units : g.V.Vault.known l.fn.vault → (c : Cells) → AreKnownOf l.fn.units c → AreKnownOf l.units (after c (flat (take l.index (Image.journal (g.V.Vault.seen l.fn.vault)))));
}
