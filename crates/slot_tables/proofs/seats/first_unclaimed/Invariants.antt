use Rattle.std.proofs.Common.{ℕ, ◌<◌}
use Rattle.slot_tables.specs.Claims.{IsClaimed}
use Rattle.slot_tables.proofs.seats.first_unclaimed.Given as goal

abbrev pub invariant-loop-slot : goal.invariant-loop-slot
invariant-loop-slot g l = (s : ℕ) → s < l.slot → IsClaimed g.C.Hold.names l.claims l.expected s
