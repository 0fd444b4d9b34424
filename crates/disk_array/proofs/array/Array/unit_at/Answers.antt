use Rattle.std.proofs.Common.{◌≡◌, sym, subst, OnOk, Some}
use Rattle.extent_groups.specs.Cells.{Cells}
use Rattle.extent_groups.specs.Stores.{unit_of}
use Rattle.unit_store.proofs.Views.{view_cells}
use Rattle.disk_array.proofs.UnitReads.{slot_gone, only_loses, units_kept, still_sound, read_matches}
use Rattle.disk_array.proofs.array.Array.unit_at.Goals as goal

pub returns-clause-ok : goal.returns-clause-ok
returns-clause-ok g c =
    let d = g.D.Drive in
    let q = c.read.new.self in
    subst (λ (x : Cells). OnOk c.read.result (unit_of q.groups x c.args.slot ≡ Some c.read.new.unit)) (sym (view_cells d.units d.lost d.failures q)) c.read.ensures.ok

pub returns-clause-gone : goal.returns-clause-gone
returns-clause-gone g c =
    let d = g.D.Drive in
    slot_gone d.units d.lost d.failures c.read.new.self c.args.slot c.read.result c.read.ensures.gone

pub returns-clause-units : goal.returns-clause-units
returns-clause-units g c =
    let d = g.D.Drive in
    let e = c.read.ensures in
    units_kept d.units d.lost d.failures c.self.inside c.read.new.self e.only e.fares e.units e.sound _ c.self.view_is

pub returns-clause-sound : goal.returns-clause-sound
returns-clause-sound g c =
    let d = g.D.Drive in
    let e = c.read.ensures in
    still_sound d.units d.lost d.failures c.self.inside c.read.new.self e.only e.fares e.units e.sound _ c.self.view_is

pub returns-clause-loses : goal.returns-clause-loses
returns-clause-loses g c =
    let d = g.D.Drive in
    let e = c.read.ensures in
    only_loses d.units d.lost d.failures c.self.inside c.read.new.self e.only e.fares e.units e.sound _ c.self.view_is

pub invariant_of-self : goal.invariant_of-self
invariant_of-self g c =
    let d = g.D.Drive in
    let e = c.read.ensures in
    read_matches d.units d.lost d.failures c.self.inside c.read.new.self e.only e.fares e.units e.sound c.read.new.scratch e.fit c.self.invariant
