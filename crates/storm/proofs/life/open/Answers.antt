use Rattle.std.proofs.Common.{rules}
use Rattle.storm.specs.Ending.{IsFreshArray}
use Rattle.storm.proofs.life.open.Goals as goal

pub returns-in-Ok-new-clause-first : goal.returns-in-Ok-new-clause-first
returns-in-Ok-new-clause-first g c =
    let new : IsFreshArray g.N.Sizes.payload c.is_fused.new.array = record { log = search rules; blocks = search rules; payloads = search rules } in
    (c.is_fused.new.array, new, (search rules))
