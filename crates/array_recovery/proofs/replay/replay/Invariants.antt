use Rattle.std.proofs.Common.{ℕ, take}
use Rattle.extent_groups.specs.Planned.{after}
use Rattle.extent_groups.specs.Cells.{Cells}
use Rattle.vault.specs.Images.{Image, flat}
use Rattle.vault.specs.Marks.{Has}
use Rattle.array_recovery.specs.Found.{AreFormed, HaveUnits, OnlyRead, TakesWritten}
use Rattle.array_recovery.proofs.replay.replay.Given as goal

-- the writes of the first batches are made
abbrev pub invariant-loop-index : goal.invariant-loop-index
invariant-loop-index g l = record {
  stays : g.V.Vault.known l.fn.vault → g.V.Vault.known l.vault;
  read : g.V.Vault.known l.fn.vault → OnlyRead g.V.Vault.seen g.V.Vault.may_leave g.V.Vault.moment g.V.Vault.left_since l.fn.vault l.vault;
  formed : (count size : ℕ) → AreFormed count size l.fn.caches → AreFormed count size l.caches;
  units : g.V.Vault.known l.fn.vault → (count size : ℕ) (c : Cells) → AreFormed count size l.fn.caches → HaveUnits l.lost c l.fn.caches
      → HaveUnits l.lost (after c (flat (take l.index (Image.journal (g.V.Vault.seen l.fn.vault))))) l.caches;
  taken : g.V.Vault.known l.fn.vault → TakesWritten (Has l.fn.rotten.marks.items) (Has l.rotten.marks.items) (flat (take l.index (Image.journal (g.V.Vault.seen l.fn.vault))));
}
