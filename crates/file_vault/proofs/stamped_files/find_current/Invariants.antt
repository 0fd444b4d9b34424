use Rattle.std.proofs.Common.{◌≡◌, length}
use Rattle.vault.specs.declared.store.Stop.{Stop}
use Rattle.vault.specs.Moments.{Elapses}
use Rattle.file_vault.specs.Generations.{HaveGenerations}
use Rattle.file_vault.proofs.stamped_files.find_current.Given as goal

abbrev pub invariant-loop-drive : goal.invariant-loop-drive
invariant-loop-drive g l = record {
  stays : g.F.Files.known l.fn.files → g.F.Files.known l.files;
  seen : g.F.Files.known l.fn.files → g.F.Files.seen l.files ≡ g.F.Files.seen l.fn.files;
  kept : g.F.Files.known l.fn.files → HaveGenerations g.F.Files.may_leave l.files l.fn.generation l.current;
  long : length l.current ≡ 16;
  time : g.F.Files.known l.fn.files → (stop : Stop) → Elapses (g.F.Files.moment l.fn.files) (g.F.Files.moment l.files) (g.F.Files.left_since l.fn.files stop) (g.F.Files.left_since l.files stop)
      (g.F.Files.may_leave l.fn.files stop) (g.F.Files.may_leave l.files stop);
}
