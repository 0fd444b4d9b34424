use Rattle.std.proofs.Common.{◌≡◌, OnOk, Ok, take}
use Rattle.std.specs.List.{All}
use Rattle.array_book.proofs.run.first_fault.Given as goal

-- no job of those so far failed
abbrev pub invariant-loop-worker : goal.invariant-loop-worker
invariant-loop-worker g l = OnOk l.result (All (λ w. w.outcome ≡ Ok tt) (take l.worker-index l.workers))
