use Rattle.std.proofs.Common.{ℕ, ◌<◌, ◌≤◌}
use Rattle.script_syntax.proofs.Splits.{IsThere}
use Rattle.script_syntax.proofs.parts.cut_far.Given as goal

-- no separator so far
abbrev pub invariant-loop-at : goal.invariant-loop-at
invariant-loop-at l = (k : ℕ) → 0 ≤ k → k < l.at → IsThere l.separator l.text k → ⊥
