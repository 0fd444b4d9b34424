use Rattle.std.proofs.Common.{◌≡◌, ◌+◌, ◌*◌, sym, subst, None}
use Rattle.extent_groups.specs.Cells.{Cells}
use Rattle.extent_groups.specs.Stores.{unit_of, AreHeaders, AreSound}
use Rattle.unit_store.specs.Views.{drive_cells}
use Rattle.unit_store.proofs.Views.{view_cells}
use Rattle.slot_tables.specs.Views.{ArrayView}
use Rattle.disk_array.proofs.UnitReads.{only_loses, units_kept, still_sound, read_matches}
use Rattle.disk_array.proofs.array.Array.headers_at.Goals as goal

pub returns-clause-read : goal.returns-clause-read
returns-clause-read g c =
    let d = g.D.Drive in
    let p = c.self.inside.parts in
    subst (λ (v : ArrayView). AreSound v.parts.groups (drive_cells v.parts) → AreHeaders v.parts.groups (drive_cells v.parts) c.args.group c.read_headers.result c.read_headers.new.headers) c.self.view_is
    (λ sound. subst (λ (x : Cells). AreHeaders p.groups x c.args.group c.read_headers.result c.read_headers.new.headers) (sym (view_cells d.units d.lost d.failures p))
    (c.read_headers.ensures.read (subst (AreSound p.groups) (view_cells d.units d.lost d.failures p) sound)))

pub returns-clause-gone : goal.returns-clause-gone
returns-clause-gone g c = λ less.
    let d = g.D.Drive in
    let q = c.read_headers.new.self in
    subst (λ (x : Cells). unit_of q.groups x (128 * c.args.group + c.read_headers.result) ≡ None) (sym (view_cells d.units d.lost d.failures q)) (c.read_headers.ensures.gone less)

pub returns-clause-units : goal.returns-clause-units
returns-clause-units g c =
    let d = g.D.Drive in
    let e = c.read_headers.ensures in
    units_kept d.units d.lost d.failures c.self.inside c.read_headers.new.self e.only e.fares e.units e.sound _ c.self.view_is

pub returns-clause-sound : goal.returns-clause-sound
returns-clause-sound g c =
    let d = g.D.Drive in
    let e = c.read_headers.ensures in
    still_sound d.units d.lost d.failures c.self.inside c.read_headers.new.self e.only e.fares e.units e.sound _ c.self.view_is

pub returns-clause-loses : goal.returns-clause-loses
returns-clause-loses g c =
    let d = g.D.Drive in
    let e = c.read_headers.ensures in
    only_loses d.units d.lost d.failures c.self.inside c.read_headers.new.self e.only e.fares e.units e.sound _ c.self.view_is

pub invariant_of-self : goal.invariant_of-self
invariant_of-self g c =
    let d = g.D.Drive in
    let e = c.read_headers.ensures in
    read_matches d.units d.lost d.failures c.self.inside c.read_headers.new.self e.only e.fares e.units e.sound c.read_headers.new.scratch e.fit c.self.invariant
