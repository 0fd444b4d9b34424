use Rattle.std.proofs.Common.{◌≡◌, ℕ, length}
use Rattle.slot_tables.specs.Views.{hand_at}
use Rattle.slot_tables.specs.Shut.{hand_emptied}
use Rattle.step_core.proofs.unmake.empty_first.Given as goal

abbrev pub invariant-loop-index : goal.invariant-loop-index
invariant-loop-index l = record {
  value : (slot : ℕ) → hand_at l.hands slot ≡ hand_emptied l.fn.group l.index slot (hand_at l.fn.hands slot);
  many : length l.hands ≡ 65536;
}
