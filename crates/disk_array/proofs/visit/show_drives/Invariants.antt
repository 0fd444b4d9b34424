use Rattle.std.specs.Prelude.{◌≡◌, ◌++◌, map, take}
use Rattle.unit_store.specs.Views.{drive_view}
use Rattle.disk_array.proofs.visit.show_drives.Given as goal

abbrev pub invariant-loop-number : goal.invariant-loop-number
invariant-loop-number g l = record {
  views : map (drive_view g.D.Drive.units g.D.Drive.lost g.D.Drive.failures) l.drives ≡ map (drive_view g.D.Drive.units g.D.Drive.lost g.D.Drive.failures) l.fn.drives;
  shown : g.V.Visit.shown l.visitor ≡ g.V.Visit.shown l.fn.visitor ++ take l.number (map (drive_view g.D.Drive.units g.D.Drive.lost g.D.Drive.failures) l.fn.drives);
  leads : g.V.Visit.leads_to l.fn.visitor l.visitor;
}
