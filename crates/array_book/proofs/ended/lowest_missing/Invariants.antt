use Rattle.std.proofs.Common.{◌≡◌, ℕ, ◌<◌, true, map}
use Rattle.array_book.specs.Whole.{has_number}
use Rattle.array_book.proofs.ended.lowest_missing.Given as goal

-- every number before this one is a hand's
abbrev pub invariant-loop-number : goal.invariant-loop-number
invariant-loop-number g l = (n : ℕ) → n < l.number → has_number (map (λ e. e.hand) l.fn.ended) n ≡ true
