use Rattle.std.proofs.Common.{subst}
use Rattle.map_join.proofs.Placing.{block_at}
use Rattle.map_join.specs.Maps.{Entries, at}
use Rattle.map_join.specs.Live.{IsBlockAt}
use Rattle.map_join.proofs.newest.BlockMapLive.block_at.Goals as goal

pub returns : goal.returns
returns c = subst (λ (es : Entries). IsBlockAt (at es) c.args.slot c.placed_at.result) c.self.view_is
    (block_at (at c.self.inside.pages.entries) c.args.slot c.placed_at.result c.placed_at.ensures)
