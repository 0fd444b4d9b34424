use Rattle.script_syntax.proofs.Fronts.{IsFront}
use Rattle.script_syntax.proofs.number.cut_any.Given as goal

abbrev pub invariant-loop-at : goal.invariant-loop-at
invariant-loop-at l = IsFront 32 l.text l.at l.number
