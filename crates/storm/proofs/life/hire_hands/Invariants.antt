use Rattle.std.proofs.Common.{◌≡◌, ◌+◌, []}
use Rattle.std.specs.List.{All}
use Rattle.storm.proofs.life.hire_hands.Given as goal

-- nothing is noted, and a hand was hired in each turn, which made no entry
abbrev pub invariant-loop : goal.invariant-loop
invariant-loop g l = (l.keeper.log ≡ l.initial.keeper.log) × (l.keeper.hired ≡ l.initial.keeper.hired + l.counter) × All (λ hand. hand.mine ≡ []) l.hands.items
