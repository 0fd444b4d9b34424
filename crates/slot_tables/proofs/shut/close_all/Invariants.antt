use Rattle.std.proofs.Common.{◌≡◌, vec_len}
use Rattle.slot_tables.specs.Kept.{kepts_of, AreOf}
use Rattle.slot_tables.proofs.Shutting.{AreClosing}
use Rattle.slot_tables.proofs.shut.close_all.Given as goal

abbrev pub invariant-loop-claim : goal.invariant-loop-claim
invariant-loop-claim g l = record {
  closing : AreClosing g.C.Hold.names l.fn.claims.items l.claims.items (kepts_of l.fn.places.items) (kepts_of l.places.items);
  of : AreOf g.C.Hold.names l.places.items;
  same : vec_len l.places ≡ vec_len l.fn.places;
}

abbrev pub decreases-loop-claim : goal.decreases-loop-claim
decreases-loop-claim g l = vec_len l.claims
