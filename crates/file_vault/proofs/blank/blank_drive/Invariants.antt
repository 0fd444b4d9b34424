use Rattle.file_vault.specs.Vaults.{plan_of}
use Rattle.file_vault.proofs.Blanks.{AreBlankBelow}
use Rattle.file_vault.proofs.blank.blank_drive.Given as goal

-- the first units of the drive are blank
abbrev pub invariant-loop-address : goal.invariant-loop-address
invariant-loop-address g l = record {
  stays : g.F.Files.known l.fn.files → g.F.Files.known l.files;
  blank : g.F.Files.known l.fn.files → AreBlankBelow (plan_of l.layout) l.drive l.address (g.F.Files.seen l.fn.files) (g.F.Files.seen l.files);
}
