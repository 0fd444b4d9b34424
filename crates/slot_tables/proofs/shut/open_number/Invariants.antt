use Rattle.std.proofs.Common.{◌≡◌, ◌≤◌, vec_len, vec_capacity}
use Rattle.slot_tables.specs.Kept.{kepts_of, AreOf}
use Rattle.slot_tables.proofs.Shutting.{IsOpening}
use Rattle.slot_tables.proofs.shut.open_number.Given as goal

abbrev pub invariant-loop-index : goal.invariant-loop-index
invariant-loop-index g l = record {
  opening : IsOpening g.C.Hold.names l.fn.group l.index (kepts_of l.fn.places.items) (kepts_of l.places.items) l.claims.items;
  of : AreOf g.C.Hold.names l.places.items;
  same : vec_len l.places ≡ vec_len l.fn.places;
  room : vec_len l.claims ≤ l.index;
  capacity : 128 ≤ vec_capacity l.claims;
}
