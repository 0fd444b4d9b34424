use Rattle.std.proofs.Common.{◌∙◌, ◌++◌, ap, map}
use Rattle.unit_store.specs.Views.{drive_view}
use Rattle.slot_tables.specs.Views.{ArrayView}
use Rattle.disk_array.proofs.Visits.{seen_same, shown_matches}
use Rattle.disk_array.proofs.array.Array.visit_drives.Goals as goal

pub returns-clause-same : goal.returns-clause-same
returns-clause-same g c =
    let d = g.D.Drive in
    seen_same d.units d.lost d.failures c.self.inside c.deref_mut-drives.result.now c.show_drives.new.drives c.deref_mut-drives.ensures.value c.show_drives.ensures.drives ∙ c.self.view_is

pub returns-clause-shown : goal.returns-clause-shown
returns-clause-shown g c is =
    let d = g.D.Drive in
    c.show_drives.ensures.shown is ∙ ap (λ ds. g.V.Visit.shown c.args.visitor.now ++ ds)
    (ap (map (drive_view d.units d.lost d.failures)) c.deref_mut-drives.ensures.value ∙ ap (λ (v : ArrayView). v.parts.drives) c.self.view_is)

pub invariant_of-self : goal.invariant_of-self
invariant_of-self g c =
    let d = g.D.Drive in
    shown_matches d.units d.lost d.failures c.self.inside c.deref_mut-drives.result.now c.show_drives.new.drives c.deref_mut-drives.ensures.value c.show_drives.ensures.drives
    c.self.invariant.2.fit c.self.invariant
