use Rattle.std.proofs.Common.{◌-◌, ◌≡◌, ◌≤◌, ◌<◌, ℕ, length}
use Rattle.vault.specs.Moments.{Elapses}
use Rattle.vault.specs.declared.store.Stop.{Stop}
use Rattle.file_vault.specs.Twins.{file_of, other, CopiedOver, copied_at}
use Rattle.file_vault.proofs.joined.copy_to.Given as goal

abbrev pub invariant-loop-at : goal.invariant-loop-at
invariant-loop-at g l = record {
  past : 4096 ≤ l.at;
  ours : length l.ours ≡ 4096;
  theirs : length l.theirs ≡ 4096;
  stays : g.F.Files.known l.fn.files → g.F.Files.known l.files;
  seen : g.F.Files.known l.fn.files → CopiedOver l.fn.lead (g.F.Files.seen l.fn.files) (g.F.Files.seen l.fn.files) (g.F.Files.seen l.files);
  done : g.F.Files.known l.fn.files → (k : ℕ) → 4096 ≤ k → k < l.at → g.F.Files.seen l.files (file_of (other l.fn.lead)) k ≡ g.F.Files.seen l.fn.files (file_of l.fn.lead) k;
  time : g.F.Files.known l.fn.files → (stop : Stop) → Elapses (g.F.Files.moment l.fn.files) (g.F.Files.moment l.files) (g.F.Files.left_since l.fn.files stop) (g.F.Files.left_since l.files stop)
      (copied_at l.fn.lead (g.F.Files.seen l.fn.files) (g.F.Files.may_leave l.fn.files stop)) (g.F.Files.may_leave l.files stop);
  faults : g.F.Files.known l.fn.files → g.F.Files.faults l.fn.files ≤ g.F.Files.faults l.files;
}

abbrev pub decreases-loop-at : goal.decreases-loop-at
decreases-loop-at g l = l.end - l.at
