use Rattle.std.proofs.Common.{◌≡◌, length}
use Rattle.tests_book.proofs.calls.payload.Given as goal

-- there are 40 bytes
abbrev pub invariant-loop-at : goal.invariant-loop-at
invariant-loop-at l = length l.bytes ≡ 40
