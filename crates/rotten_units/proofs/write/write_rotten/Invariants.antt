use Rattle.extent_groups.specs.Calls.{KeepsDrives, NoPlace}
use Rattle.extent_groups.specs.Cells.{cells}
use Rattle.vault.specs.Marks.{Has}
use Rattle.rotten_units.specs.Written.{WroteAt, WroteFrom}
use Rattle.rotten_units.proofs.write.write_rotten.Given as goal

abbrev pub invariant-loop-number : goal.invariant-loop-number
invariant-loop-number g l = record {
  stays : g.V.Vault.known l.fn.vault → g.V.Vault.known l.vault;
  wrote : g.V.Vault.known l.fn.vault → WroteAt g.V.Vault.seen g.V.Vault.may_leave g.V.Vault.moment g.V.Vault.left_since (Has l.rotten.marks.items) l.fn.vault l.vault;
  units : g.V.Vault.known l.fn.vault → WroteFrom g.V.Vault.seen g.V.Vault.attested (Has l.rotten.marks.items) (cells g.D.Drive.units g.D.Drive.lost l.fn.drives) l.fn.vault l.vault;
  drives : KeepsDrives g.D.Drive.units g.D.Drive.lost g.D.Drive.failures NoPlace l.fn.drives l.drives;
}
