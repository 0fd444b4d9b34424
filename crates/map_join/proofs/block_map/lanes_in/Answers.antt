use Rattle.std.proofs.Common.{ap, sym, ◌∙◌, arith}
use Rattle.map_join.specs.Maps.{lanes_of}
use Rattle.map_join.proofs.Lanes.{none_at}
use Rattle.map_join.proofs.block_map.lanes_in.Goals as goal

pub returns-in-None-clause-value : goal.returns-in-None-clause-value
returns-in-None-clause-value c = λ lane. none_at 64 lane ∙ sym (ap (λ o. lanes_of o lane) (sym c.in-None.ensures.value))

pub returns-in-None-clause-least : goal.returns-in-None-clause-least
returns-in-None-clause-least c = λ lane above. let z = none_at 64 lane in absurd (omega arith)
