use Rattle.std.proofs.Common.{◌≡◌, ◌+◌, ◌*◌, ◌≤◌, vec_len, vec_capacity}
use Rattle.slot_tables.specs.Kept.{kepts_of, AreOf}
use Rattle.slot_tables.proofs.slot_state.grow_to.Given as goal

abbrev pub invariant-loop-made : goal.invariant-loop-made
invariant-loop-made g l = record {
  count : l.count ≡ 128 * (l.fn.group + 1);
  made : vec_len l.places ≡ l._made;
  most : vec_len l.places ≤ 65536;
  room : l.count ≤ vec_capacity l.places;
  no_more : vec_capacity l.fn.places ≤ 65536 → vec_capacity l.places ≤ 65536;
  kept : kepts_of l.places.items ≡ kepts_of l.fn.places.items;
  longer : vec_len l.fn.places ≤ vec_len l.places;
  of : AreOf g.C.Hold.names l.places.items;
}
