use Rattle.std.proofs.Common.{sym, subst}
use Rattle.map_join.specs.Maps.{IsListOf, at}
use Rattle.slot_tables.specs.Represents.{ShowsArray}
use Rattle.slot_tables.specs.Views.{ArrayView, key_at}
use Rattle.disk_array.specs.Inside.{seen}
use Rattle.disk_array.proofs.Shortening.{list_as, shortened_shows}
use Rattle.disk_array.proofs.array.Array.shorten_log.Goals as goal

pub returns-clause-flat : goal.returns-clause-flat
returns-clause-flat g c F shows =
    let d = g.D.Drive in
    let v = seen d.units d.lost d.failures c.self.inside in
    let log = c.in-Ok-to_list.log.items in
    let list : IsListOf (key_at c.args.self.now) log = list_as (at c.in-Ok.map) (key_at c.args.self.now) log c.in-Ok.ensures.ok c.in-Ok-to_list.ensures.list in
    shortened_shows v F log (subst (λ (a : ArrayView). IsListOf (key_at a) log) (sym c.self.view_is) list)
    (subst (λ (a : ArrayView). ShowsArray a F) (sym c.self.view_is) shows)
