use Rattle.std.proofs.Common.{◌≡◌, ℕ, ◌≤◌, vec_len, vec_capacity, get_or}
use Rattle.slot_tables.specs.declared.slot_state.SlotState.TheVariants.{Free}
use Rattle.slot_tables.proofs.tables.free_places.Given as goal

abbrev pub invariant-loop-made : goal.invariant-loop-made
invariant-loop-made g l = record {
  count : vec_len l.places ≡ l._made;
  room : l.count ≤ vec_capacity l.places;
  same : (k : ℕ) → get_or l.places.items k Free ≡ Free;
}
