use Rattle.std.proofs.Common.{rules, max, ap, ◌∙◌, slice_index}
use Rattle.map_join.specs.Maps.{lanes_of}
use Rattle.map_join.proofs.block_map.raise_page.Goals as goal

pub returns-in-Some-clause-ok : goal.returns-in-Some-clause-ok
returns-in-Some-clause-ok c = (
  c.join.new.self,
  ((c.get_mut.follows.holds c.join.new.self).3 (search rules)).0,
  λ lane. c.join.ensures lane ∙ ap (λ o. max (lanes_of o lane) (slice_index c.args.theirs.now lane)) c.in-Some.ensures.value,
)
