use Rattle.std.proofs.Common.{◌≡◌, ℕ, ◌<◌, ◌≤◌, length, slice_index}
use Rattle.map_join.specs.Maps.{at}
use Rattle.slot_tables.specs.Claims.{IsKey}
use Rattle.slot_tables.proofs.ready.keys_of.Given as goal

abbrev pub invariant-loop-block : goal.invariant-loop-block
invariant-loop-block l = record {
  many : length l.keys.items ≡ l.blocks;
  before : (b : ℕ) → b < l.block → slice_index l.keys.items b ≡ at l.map b;
  rest : (b : ℕ) → l.block ≤ b → slice_index l.keys.items b ≡ 0;
  reported : (b : ℕ) → b < l.block → IsKey (at l.map b);
}
