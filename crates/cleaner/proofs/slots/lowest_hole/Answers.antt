use Rattle.std.proofs.Common.{arith, below_more}
use Rattle.cleaner.proofs.Counting.{few_slots, lowest_hole_at, all_live}
use Rattle.cleaner.proofs.slots.lowest_hole.Goals as goal

pub returns-in-None : goal.returns-in-None
returns-in-None g c =
    lowest_hole_at c.args.groups.now (g.L.Live.keys c.args.live.now) c.args.group c.loop-index.index c.requires.made
    (few_slots c.args.groups.now c.args.group c.members-members.ensures.groups) (omega (arith, c.slots_of-index-end.ensures.count)) c.loop-index.invariant c.in-None.ensures

pub returns : goal.returns
returns g c =
    all_live c.args.groups.now (g.L.Live.keys c.args.live.now) c.args.group c.loop-index.index (omega (arith, c.slots_of-index-end.ensures.count)) c.loop-index.invariant

pub loop-index-preserved : goal.loop-index-preserved
loop-index-preserved g c = below_more _ _ c.loop-index.invariant (_, c.in-Some.ensures)
