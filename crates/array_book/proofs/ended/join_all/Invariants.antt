use Rattle.std.proofs.Common.{◌≡◌, ◌+◌, ◌++◌, map}
use Rattle.array_book.specs.Settling.{taken_by, shares_of}
use Rattle.array_book.specs.Passes.{joined}
use Rattle.array_book.specs.Whole.{AreWhole}
use Rattle.array_book.proofs.ended.join_all.Given as goal

-- what is joined and what is left to join are all that was taken, and all shares; where the history agrees with the hands that are
-- left, it agrees with all
abbrev pub invariant-loop-other : goal.invariant-loop-other
invariant-loop-other g l =
    (joined l.first.pass (map (λ e. e.pass) l.other-iterator.rest.items) ≡ joined l.initial.first.pass (map (λ e. e.pass) l.fn.rest.items))
    × (l.first.even.taken ++ taken_by (map (λ e. e.even) l.other-iterator.rest.items) ≡ l.initial.first.even.taken ++ taken_by (map (λ e. e.even) l.fn.rest.items))
    × (l.first.odd.taken ++ taken_by (map (λ e. e.odd) l.other-iterator.rest.items) ≡ l.initial.first.odd.taken ++ taken_by (map (λ e. e.odd) l.fn.rest.items))
    × (l.first.even.share + shares_of (map (λ e. e.even) l.other-iterator.rest.items) ≡ l.initial.first.even.share + shares_of (map (λ e. e.even) l.fn.rest.items))
    × (l.first.odd.share + shares_of (map (λ e. e.odd) l.other-iterator.rest.items) ≡ l.initial.first.odd.share + shares_of (map (λ e. e.odd) l.fn.rest.items))
    × (l.first.hand ≡ l.initial.first.hand)
    × (l.keeper ≡ l.initial.keeper)
    × (AreWhole l.initial.keeper (map (λ e. e.hand) l.other-iterator.rest.items) → AreWhole l.initial.keeper (map (λ e. e.hand) l.fn.rest.items))
