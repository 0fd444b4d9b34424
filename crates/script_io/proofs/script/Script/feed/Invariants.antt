use Rattle.std.proofs.Common.{length, ◌+◌, ◌≤◌}
use Rattle.script_exec.specs.State.{State}
use Rattle.script_exec.specs.Carrying.{MatchesState}
use Rattle.script_io.specs.Feeding.{IsAlong, IsScript, most_left}
use Rattle.script_io.proofs.script.Script.feed.Given as goal

-- all of the chunk but the rest was read
abbrev pub invariant-loop-part : goal.invariant-loop-part
invariant-loop-part l = record {
  good : IsScript l.self;
  fewer : most_left l.self + length l.fn.chunk ≤ most_left l.fn.self + length l.rest;
  along : (state : State) → MatchesState l.fn.self.bench state → IsAlong l.fn.self state l.self l.fn.chunk l.rest;
}

abbrev pub decreases-loop-part : goal.decreases-loop-part
decreases-loop-part l = length l.rest
