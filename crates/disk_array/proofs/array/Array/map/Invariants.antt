use Rattle.std.proofs.Common.{◌≡◌, ℕ, ◌<◌, ◌≤◌}
use Rattle.map_join.specs.Maps.{at}
use Rattle.slot_tables.specs.Views.{key_at}
use Rattle.disk_array.proofs.array.Array.map.Given as goal

abbrev pub invariant-loop-block : goal.invariant-loop-block
invariant-loop-block g l = record {
  before : (b : ℕ) → b < l.block → at l.map b ≡ key_at l.self b;
  rest : (b : ℕ) → l.block ≤ b → at l.map b ≡ 0;
}
