-- The outcome of putting a block into a slot.
use Rattle.std.specs.Prelude.{◌⊎◌, ℕ, [], ◌∷◌}
use Rattle.flat_machine.specs.Flat.{Flat}
use Rattle.flat_machine.specs.Steps.{Taken}
use Rattle.flat_machine.specs.Steps as step
use Rattle.flat_machine.specs.Cases.{Runs}
pub use Rattle.step_core.specs.Placing.{Put, Fresh, Again, content_of, put_of, put_step, put_answer, back_steps, back_answers, IsRelocated, IsRefusedAtOnce, IsRefusedLate, PlaceStops, record_slot, IsGivenFor, IsLevelFor, IsSizedFor}
use Rattle.tiered_array.specs.declared.outcome.Outcome.{Outcome}
use Rattle.tiered_array.specs.declared.outcome.Outcome.TheVariants.{Placed, Refused, NoRoom, Nothing}

-- the outcome of putting a block into a slot: `NoRoom` where somebody holds the slot
abbrev pub PlaceCase : Flat → ℕ → ℕ → ℕ → Put → Outcome → Flat → Type 0
PlaceCase F w s b what (Placed r) G = IsRelocated F w s b what r G
PlaceCase F w s b what (Refused k) G = IsRefusedAtOnce F w s b what k G ⊎ IsRefusedLate F w s b what k G
PlaceCase F w s b what NoRoom G = Runs F (step.Claim w s ∷ []) (Taken s ∷ []) G
PlaceCase F w s b what Nothing G = ⊥
