use Rattle.std.proofs.Common.{sym, subst}
use Rattle.unit_store.specs.Views.{view_of}
use Rattle.slot_tables.specs.Represents.{ShowsArray}
use Rattle.slot_tables.specs.Views.{ArrayView}
use Rattle.slot_tables.proofs.Fares.{fared, lost_leaves, lost_shows}
use Rattle.disk_array.proofs.UnitReads.{only_loses, sync_matches}
use Rattle.disk_array.proofs.array.Array.sync.Goals as goal

pub returns-clause-loses : goal.returns-clause-loses
returns-clause-loses g c =
    let d = g.D.Drive in
    let e = c.sync.ensures in
    only_loses d.units d.lost d.failures c.self.inside c.sync.new.self e.only e.fares e.units e.sound _ c.self.view_is

pub returns-clause-flat : goal.returns-clause-flat
returns-clause-flat g c F shows =
    let d = g.D.Drive in
    let e = c.sync.ensures in
    let v = c.args.self.now in
    let p = view_of d.units d.lost d.failures c.sync.new.self in
    let loses = only_loses d.units d.lost d.failures c.self.inside c.sync.new.self e.only e.fares e.units e.sound _ c.self.view_is in
    (fared F p, lost_leaves v F p shows loses.1, subst (λ (a : ArrayView). ShowsArray a (fared F p)) (sym loses.0) (lost_shows v F p shows loses.1))

pub invariant_of-self : goal.invariant_of-self
invariant_of-self g c =
    let d = g.D.Drive in
    let e = c.sync.ensures in
    sync_matches d.units d.lost d.failures c.self.inside c.sync.new.self e.only e.fares e.units e.sound e.fit c.self.invariant
