use Rattle.std.proofs.Common.{rules}
use Rattle.array_batch.proofs.Arrays.{keys_of}
use Rattle.drive_removal.proofs.Emptying.{is_emptied}
use Rattle.drive_removal.proofs.memory.emptied.Goals as goal

pub returns-clause-emptied : goal.returns-clause-emptied
returns-clause-emptied c = λ was what both outlives lost.
    let old = c.in_ok-tiers.tiers in
    let holds = c.in_ok-tiers.ensures.bytes was what.bytes both.holds outlives in
    let moved = c.in_ok-evacuate.ensures.evacuated holds.state holds.matches in
    is_emptied what c.args.parts (c.is_fit.ensures.0 (search rules)) c.args.drive lost old c.evacuate.new.tiers holds (c.in_ok-tiers.ensures.map was what.keys (keys_of was what both) outlives) c.in_ok-tiers.ensures.same
    moved.0 moved.1 moved.2 moved.3 (c.evacuate.ensures.map holds.state holds.matches) c.in_ok-parts.parts c.in_ok-parts.ensures.parts
