use Rattle.std.proofs.Common.{◌≡◌, ◌≤◌}
use Rattle.vault.specs.declared.store.Stop.{Stop}
use Rattle.vault.specs.Moments.{Elapses}
use Rattle.file_vault.specs.Vaults.{AreSynced}
use Rattle.file_vault.proofs.over_files.sync_drives.Given as goal

abbrev pub invariant-loop-drive : goal.invariant-loop-drive
invariant-loop-drive g l = record {
  stays : g.F.Files.known l.fn.files → g.F.Files.known l.files;
  seen : g.F.Files.known l.fn.files → g.F.Files.seen l.files ≡ g.F.Files.seen l.fn.files;
  durable : g.F.Files.known l.fn.files → AreSynced l.fn.lost l.fn.layout.counts (g.F.Files.seen l.fn.files) (g.F.Files.may_leave l.files) l.drive;
  time : g.F.Files.known l.fn.files → (stop : Stop) → Elapses (g.F.Files.moment l.fn.files) (g.F.Files.moment l.files) (g.F.Files.left_since l.fn.files stop) (g.F.Files.left_since l.files stop)
      (g.F.Files.may_leave l.fn.files stop) (g.F.Files.may_leave l.files stop);
  faults : g.F.Files.known l.fn.files → g.F.Files.faults l.fn.files ≤ g.F.Files.faults l.files;
}
