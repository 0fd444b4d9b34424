use Rattle.std.proofs.Common.{◌≡◌, ◌≤◌, ◌+◌, ◌-◌}
use Rattle.tests_book.proofs.rig.parted.Given as goal

-- nothing is noted, and a hand was hired in each turn
abbrev pub invariant-loop : goal.invariant-loop
invariant-loop g l = (l.keeper.log ≡ l.initial.keeper.log) × (l.keeper.hired + 1 ≡ l.initial.keeper.hired + l.counter) × (l.counter - 1 ≤ l.count - 1)
