use Rattle.std.proofs.Common.{arith, below_more}
use Rattle.cleaner.proofs.Counting.{few_slots, lowest_live_at, none_live}
use Rattle.cleaner.proofs.slots.lowest_live.Goals as goal

pub returns-in-Some : goal.returns-in-Some
returns-in-Some g c = (
  lowest_live_at c.args.groups.now (g.L.Live.keys c.args.live.now) c.args.group c.loop-index.index c.in-Some.block c.requires.made
      (few_slots c.args.groups.now c.args.group c.members-members.ensures.groups) (omega (arith, c.slots_of-index-end.ensures.count)) c.loop-index.invariant c.in-Some.ensures,
  c.in-Some.ensures,
)

pub returns : goal.returns
returns g c =
    none_live c.args.groups.now (g.L.Live.keys c.args.live.now) c.args.group c.loop-index.index (omega (arith, c.slots_of-index-end.ensures.count)) c.loop-index.invariant

pub loop-index-preserved : goal.loop-index-preserved
loop-index-preserved g c = below_more _ _ c.loop-index.invariant c.in-None.ensures
