use Rattle.std.proofs.Common.{◌<◌, length}
use Rattle.std.proofs.lemmas.Option.{slice_get-get_or}
use Rattle.unit_store.specs.Views.{drive_view}
use Rattle.disk_array.proofs.Visits.{same_views, shown_more}
use Rattle.disk_array.proofs.visit.show_drives.Goals as goal

pub returns-then-not-visit-clause-drives : goal.returns-then-not-visit-clause-drives
returns-then-not-visit-clause-drives g c =
    let d = g.D.Drive in
    let inside : c.loop-number.number < length c.loop-number.drives = rw c.loop-number.auto.drives c.loop-number-test.true in
    let there = slice_get-get_or c.loop-number.drives c.loop-number.number c.index-drives-number.result inside in
    same_views (drive_view d.units d.lost d.failures) c.loop-number.drives c.args.drives.now c.loop-number.number _ c.visit.new.drive there c.visit.ensures.drive c.loop-number.invariant.views

pub loop-number-preserved : goal.loop-number-preserved
loop-number-preserved g c =
    let d = g.D.Drive in
    let l = c.loop-number in
    let inside : l.number < length l.drives = rw l.auto.drives c.loop-number-test.true in
    let there = slice_get-get_or l.drives l.number c.index-drives-number.result inside in
    record {
      views = same_views (drive_view d.units d.lost d.failures) l.drives c.args.drives.now l.number _ c.visit.new.drive there c.visit.ensures.drive l.invariant.views;
      shown = shown_more (drive_view d.units d.lost d.failures) l.drives c.args.drives.now l.number _ _ _ _ c.loop-number-test.true there l.invariant.views
          l.invariant.shown (c.visit.ensures.shown c.if-not-visit.false);
      leads = g.met.V.Visit.further _ _ _ l.invariant.leads c.visit.ensures.leads;
    }
