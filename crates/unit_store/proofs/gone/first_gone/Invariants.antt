use Rattle.std.proofs.Common.{ℕ, ◌+◌, ◌*◌, ◌<◌}
use Rattle.extent_groups.specs.Missing.{missing_of, IsGone}
use Rattle.unit_store.proofs.gone.first_gone.Given as goal

abbrev pub invariant-loop-index : goal.invariant-loop-index
invariant-loop-index g l = (i : ℕ) → i < l.index → IsGone l.groups (missing_of g.D.Drive.lost l.drives) (128 * l.group + i) → ⊥
