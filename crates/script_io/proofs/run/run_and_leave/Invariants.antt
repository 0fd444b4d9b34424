use Rattle.std.proofs.Common.{◌≡◌, []}
use Rattle.script_exec.specs.State.{State}
use Rattle.script_exec.specs.Carrying.{MatchesState}
use Rattle.script_io.specs.Feeding.{IsScript, most_left}
use Rattle.script_io.specs.Turns.{PartSaid}
use Rattle.script_io.proofs.run.run_and_leave.Given as goal

-- what was read so far is answered and written
abbrev pub invariant-loop-writer : goal.invariant-loop-writer
invariant-loop-writer g l =
    let remaining = g.R.Read.remaining in
    let contents = g.W.Write.contents in record {
      good : IsScript l.script;
      written : l.script.out.items ≡ [];
      said : (state : State) → MatchesState l.initial.script.bench state → PartSaid (remaining l.fn.reader) (remaining l.reader)
          l.initial.script state l.script (contents l.fn.writer) (contents l.writer);
    }

abbrev pub decreases-loop-writer : goal.decreases-loop-writer
decreases-loop-writer g l = most_left l.script
