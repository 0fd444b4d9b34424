use Rattle.std.proofs.Common.{slice_index}
use Rattle.map_join.proofs.Paged.{paged_ok, numbers_where}
use Rattle.map_join.proofs.block_map.BlockMap.join_page.Goals as goal

pub invariant_of-self : goal.invariant_of-self
invariant_of-self c = numbers_where c.raise_page.result c.self.inside.pages.entries c.raise_page.new.pages.entries c.args.number (slice_index c.args.page.now) c.requires
    c.self.invariant c.raise_page.ensures.ok c.raise_page.ensures.err

pub returns-clause-ok : goal.returns-clause-ok
returns-clause-ok c = rw (← c.self.view_is) (paged_ok c.raise_page.result c.self.inside.pages.entries c.raise_page.new.pages.entries c.args.number (slice_index c.args.page.now) c.raise_page.ensures.ok)
