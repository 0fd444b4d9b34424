use Rattle.std.proofs.Common.{rules, max, ap, ◌∙◌}
use Rattle.map_join.specs.Maps.{lanes_of, lone}
use Rattle.map_join.proofs.block_map.raise_key.Goals as goal

pub returns-in-Some-clause-ok : goal.returns-in-Some-clause-ok
returns-in-Some-clause-ok c = (
  c.raise.new.self,
  ((c.get_mut.follows.holds c.raise.new.self).3 (search rules)).0,
  λ lane. c.raise.ensures lane ∙ ap (λ o. max (lanes_of o lane) (lone c.args.lane c.args.key lane)) c.in-Some.ensures.value,
)
