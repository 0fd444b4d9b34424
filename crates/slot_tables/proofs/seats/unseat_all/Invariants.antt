use Rattle.std.proofs.Common.{◌+◌, ◌≤◌, vec_len, vec_capacity}
use Rattle.slot_tables.proofs.Seated.{AreOut}
use Rattle.slot_tables.proofs.seats.unseat_all.Given as goal

abbrev pub invariant-loop-place : goal.invariant-loop-place
invariant-loop-place g l = record {
  out : AreOut g.C.Hold.names l.fn.places.items l.places.items l.claims.items;
  room : vec_len l.places + vec_len l.claims ≤ vec_capacity l.claims;
}

abbrev pub decreases-loop-place : goal.decreases-loop-place
decreases-loop-place g l = vec_len l.places
