use Rattle.std.proofs.Common.{◌≡◌, ℕ, true}
use Rattle.slot_tables.specs.Represents.{is_claim}
use Rattle.slot_tables.specs.Views.{hand_at}
use Rattle.slot_tables.proofs.Shutting.{is_first}
use Rattle.step_core.proofs.world.World.first_not_held.Given as goal

abbrev pub invariant-loop-index : goal.invariant-loop-index
invariant-loop-index g l = (slot : ℕ) → is_first l.fn.group l.index slot ≡ true → is_claim (hand_at l.self.hands slot) l.fn.worker ≡ true
