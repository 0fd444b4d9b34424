use Rattle.std.proofs.Common.{ℕ, take}
use Rattle.extent_groups.specs.Cells.{Cells}
use Rattle.extent_groups.specs.Planned.{after}
use Rattle.vault.specs.Marks.{Has}
use Rattle.array_recovery.specs.Found.{AreFormed, HaveUnits, TakesWritten}
use Rattle.array_recovery.proofs.replay.replay_batch.Given as goal

-- the first writes are made
abbrev pub invariant-loop-index : goal.invariant-loop-index
invariant-loop-index l = record {
  formed : (count size : ℕ) → AreFormed count size l.fn.caches → AreFormed count size l.caches;
  units : (count size : ℕ) (c : Cells) → AreFormed count size l.fn.caches → HaveUnits l.lost c l.fn.caches
      → HaveUnits l.lost (after c (take l.index l.batch)) l.caches;
  taken : TakesWritten (Has l.fn.rotten.marks.items) (Has l.rotten.marks.items) (take l.index l.batch);
}
