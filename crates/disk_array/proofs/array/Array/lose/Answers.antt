use Rattle.std.proofs.Common.{◌≡◌, subst, ap}
use Rattle.unit_store.specs.Views.{PartsView, view_of}
use Rattle.slot_tables.specs.Views.{ArrayView}
use Rattle.disk_array.specs.Losing.{WasLost}
use Rattle.disk_array.proofs.Pulled.{was_lost, drive_below, still_matches}
use Rattle.disk_array.proofs.array.Array.lose.Goals as goal

pub invariant_of-self : goal.invariant_of-self
invariant_of-self g c =
    let e = c.lose.ensures in
    let within = drive_below g.D.Drive.units g.D.Drive.lost g.D.Drive.failures c.self.inside.parts c.args.self.now.parts c.args.drive (ap (λ (a : ArrayView). a.parts) c.self.view_is) c.requires in
    let was = was_lost g.D.Drive.units g.D.Drive.lost g.D.Drive.failures c.self.inside.parts c.lose.new.self c.args.drive e.lost within
    e.missing e.failures e.units e.sound e.tables
    in
    still_matches g.D.Drive.units g.D.Drive.lost g.D.Drive.failures g.C.Hold.names c.self.inside c.lose.new.self (record { tables = was.rest; many = was.many }) e.fit c.self.invariant

pub returns-clause-lost : goal.returns-clause-lost
returns-clause-lost g c =
    let e = c.lose.ensures in
    let parts = view_of g.D.Drive.units g.D.Drive.lost g.D.Drive.failures in
    let seen : parts c.self.inside.parts ≡ c.args.self.now.parts = ap (λ (a : ArrayView). a.parts) c.self.view_is in
    let within = drive_below g.D.Drive.units g.D.Drive.lost g.D.Drive.failures c.self.inside.parts c.args.self.now.parts c.args.drive seen c.requires in
    subst (λ (p : PartsView). WasLost p (parts c.lose.new.self) c.args.drive) seen
    (was_lost g.D.Drive.units g.D.Drive.lost g.D.Drive.failures c.self.inside.parts c.lose.new.self c.args.drive e.lost within e.missing e.failures e.units e.sound e.tables)
