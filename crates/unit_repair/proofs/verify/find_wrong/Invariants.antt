use Rattle.unit_store.specs.Fit.{IsFit}
use Rattle.unit_store.specs.Losses.{LosesOnly}
use Rattle.unit_store.specs.Memory.{held_failures, held_lost, held_units}
use Rattle.unit_store.specs.Slots.{cells_in}
use Rattle.vault.specs.Marks.{Has}
use Rattle.unit_repair.specs.Computed.{AreSoundIfNotedBelow}
use Rattle.unit_repair.proofs.verify.find_wrong.Given as goal

-- the first slots are sound, if one of their units is rotten
abbrev pub invariant-loop-number : goal.invariant-loop-number
invariant-loop-number l = record {
  below : AreSoundIfNotedBelow (Has l.rotten.marks.items) l.fn.parts.groups (cells_in held_units held_lost l.fn.parts) l.number;
  only : LosesOnly held_units held_lost held_failures l.fn.parts l.parts;
  fit : IsFit held_units l.parts;
}
