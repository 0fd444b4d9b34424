use Rattle.std.proofs.Common.{subst, sym}
use Rattle.map_join.specs.Live.{IsBlockAt}
use Rattle.slot_tables.specs.Views.{key_at}
use Rattle.slot_tables.proofs.Newest.{lies_at}
use Rattle.disk_array.proofs.array.Array.block_at.Goals as goal

pub returns : goal.returns
returns g c =
    subst (IsBlockAt (key_at c.args.self.now) c.args.slot) (sym c.placed.ensures.value) (lies_at c.args.self.now c.args.slot c.placed.ensures.whole)
