use Rattle.std.proofs.Common.{◌%◌, ap, sym, ◌∙◌}
use Rattle.map_join.specs.Maps.{Entries, at}
use Rattle.map_join.proofs.Paged.{at_is}
use Rattle.map_join.proofs.block_map.BlockMap.key_at.Goals as goal

pub returns-clause-value : goal.returns-clause-value
returns-clause-value c =
    c.lanes_in.ensures.value (c.args.block % 64) ∙ sym (at_is c.self.inside.pages.entries c.args.block)
    ∙ ap (λ (xs : Entries). at xs c.args.block) c.self.view_is
