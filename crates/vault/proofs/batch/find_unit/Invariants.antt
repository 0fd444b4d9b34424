use Rattle.std.proofs.Common.{ℕ, ◌≤◌, ◌<◌, ◌-◌, length}
use Rattle.vault.specs.Entries.{IsUnitOf}
use Rattle.vault.proofs.batch.find_unit.Given as goal

abbrev pub invariant-loop-index : goal.invariant-loop-index
invariant-loop-index l = (k : ℕ) → length l.entries - 64 ≤ k → k < l.index → IsUnitOf l.units l.entries k l.unit → ⊥
