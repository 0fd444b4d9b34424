use Rattle.std.proofs.Common.{slice_index}
use Rattle.map_join.proofs.Paged.{set_ok}
use Rattle.map_join.proofs.block_map.BlockMap.put_table.Goals as goal

pub returns-in-Ok : goal.returns-in-Ok
returns-in-Ok c = rw (← c.self.view_is) (set_ok c.put_page.result c.self.inside.pages.entries c.put_page.new.pages.entries c.args.number c.in-Ok.page
    (slice_index c.args.table.now) c.in-Ok.ensures c.put_page.ensures.ok)
