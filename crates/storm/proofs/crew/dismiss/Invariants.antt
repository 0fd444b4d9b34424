use Rattle.std.proofs.Common.{◌≡◌, ◌++◌, map}
use Rattle.storm.proofs.crew.dismiss.Given as goal

-- the hands so far, and those of the workers that are left
abbrev pub invariant-loop-worker : goal.invariant-loop-worker
invariant-loop-worker g l = map (λ e. e.hand) l.ended.items ++ map (λ w. w.hand) l.worker-iterator.rest.items ≡ map (λ e. e.hand) l.initial.ended.items ++ map (λ w. w.hand) l.fn.hired.items
