use Rattle.std.proofs.Common.{ℕ, ◌/◌, ◌<◌}
use Rattle.extent_groups.specs.declared.class.Class.TheVariants.{Mirrored}
use Rattle.extent_groups.specs.Stores.{IsSlotOf}
use Rattle.migrator.proofs.first.first_mirror.Given as goal

abbrev pub invariant-loop-row : goal.invariant-loop-row
invariant-loop-row g l = (s : ℕ) → s / 2048 < l.row → IsSlotOf Mirrored l.groups s × g.F.Free.free l.free s → ⊥
