use Rattle.std.proofs.Common.{◌≤◌, sym, subst, rules}
use Rattle.std.proofs.lemmas.List.{length-map}
use Rattle.unit_store.specs.Views.{drive_view}
use Rattle.unit_store.proofs.Views.{view_drives}
use Rattle.slot_tables.proofs.News.{new_whole, new_shows, shape_sizes}
use Rattle.disk_array.proofs.News.{of_tables, is_new, is_ready, are_of}
use Rattle.disk_array.proofs.array.Array.new.Goals as goal

pub invariant_of-result : goal.invariant_of-result
invariant_of-result g c =
    let d = g.D.Drive in
    let t = c.in-Ok.tables in
    let ready = is_ready d.units c.args.shape t c.args.drives c.new.result c.none_live.result _ (search rules) c.requires.count.0 c.requires.count.1 c.requires.units c.requires.sized c.in-Ok.ensures c.none_live.ensures.many c.none_live.ensures.none in (
      new_whole _ (is_new d.units d.lost d.failures c.args.shape t c.args.drives c.new.result c.none_live.result _ (search rules) c.new.ensures.items (view_drives d.units d.lost d.failures (of_tables c.args.shape t c.args.drives c.new.result c.none_live.result).parts ready.fit.drives) c.in-Ok.ensures)
          (shape_sizes c.args.shape t.groups c.in-Ok.ensures.sizes),
      are_of g.C.Hold.names c.args.shape _ t c.in-Ok.ensures,
      ready,
    )

pub returns-clause-ok : goal.returns-clause-ok
returns-clause-ok g c =
    let d = g.D.Drive in
    let t = c.in-Ok.tables in
    let ready = is_ready d.units c.args.shape t c.args.drives c.new.result c.none_live.result _ (search rules) c.requires.count.0 c.requires.count.1 c.requires.units c.requires.sized c.in-Ok.ensures c.none_live.ensures.many c.none_live.ensures.none in
    let many = sym (length-map c.args.drives.items (drive_view d.units d.lost d.failures)) in
    new_shows _ (is_new d.units d.lost d.failures c.args.shape t c.args.drives c.new.result c.none_live.result _ (search rules) c.new.ensures.items (view_drives d.units d.lost d.failures (of_tables c.args.shape t c.args.drives c.new.result c.none_live.result).parts ready.fit.drives) c.in-Ok.ensures)
    (shape_sizes c.args.shape t.groups c.in-Ok.ensures.sizes) (subst (λ n. 3 ≤ n) many c.requires.count.0) (subst (λ n. n ≤ 16) many c.requires.count.1)
