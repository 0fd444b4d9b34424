use Rattle.std.proofs.Common.{◌≡◌, ◌+◌, ◌≤◌, vec_len, vec_capacity}
use Rattle.slot_tables.specs.Kept.{kepts_of, AreOf}
use Rattle.slot_tables.proofs.Seated.{AreSeated}
use Rattle.slot_tables.proofs.seats.seat_all.Given as goal

abbrev pub invariant-loop-claim : goal.invariant-loop-claim
invariant-loop-claim g l = record {
  seated : AreSeated g.C.Hold.names l.fn.claims.items l.fn.expected.items l.claims.items l.expected.items (kepts_of l.places.items) l.others.items;
  of : AreOf g.C.Hold.names l.places.items;
  places : vec_len l.places ≡ vec_len l.fn.places;
  room : vec_len l.claims + vec_len l.others ≤ vec_capacity l.others;
}

abbrev pub decreases-loop-claim : goal.decreases-loop-claim
decreases-loop-claim g l = vec_len l.claims
