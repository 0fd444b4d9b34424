use Rattle.std.proofs.Common.{subst, ℕ}
use Rattle.map_join.specs.Maps.{Entries, at}
use Rattle.map_join.specs.Pages.{IsFirstBlock}
use Rattle.map_join.proofs.Merging.{stopped_at_once}
use Rattle.map_join.proofs.block_map.BlockMap.take_over.Goals as goal

pub returns-in-Err-clause-partly : goal.returns-in-Err-clause-partly
returns-in-Err-clause-partly c =
    stopped_at_once c.args.self.now c.args.other.now c.requires
    (subst (λ (xs : Entries). (block : ℕ) × IsFirstBlock (at xs) block) c.other.view_is c.in-Err.ensures.err)
