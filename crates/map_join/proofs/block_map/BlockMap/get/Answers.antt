use Rattle.std.proofs.Common.{rules, sym}
use Rattle.map_join.proofs.Listing.{reported_key}
use Rattle.map_join.proofs.block_map.BlockMap.get.Goals as goal

pub returns-clause-value : goal.returns-clause-value
returns-clause-value c = search rules

pub returns-clause-key : goal.returns-clause-key
returns-clause-key c = rw (c.of_key.ensures, sym c.key_at.ensures.value) (reported_key c.args.block c.key_at.result c.key_at.ensures.least)
