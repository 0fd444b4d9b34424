use Rattle.drive_places.specs.Claims.{IsChoiceUpTo}
use Rattle.drive_places.proofs.choice.choose.Given as goal

-- what was chosen is the choice among the paths so far
abbrev pub invariant-loop-index : goal.invariant-loop-index
invariant-loop-index l = IsChoiceUpTo l.index l.sights l.drive l.choice
