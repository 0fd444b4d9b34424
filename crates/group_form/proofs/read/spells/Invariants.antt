use Rattle.std.proofs.Common.{◌≡◌, ◌<◌, ℕ, Some}
use Rattle.std.specs.Prelude.{slice_get}
use Rattle.group_form.specs.Form.{group_unit}
use Rattle.group_form.proofs.read.spells.Given as goal

-- the first units are those of the groups
abbrev pub invariant-loop-index : goal.invariant-loop-index
invariant-loop-index l = (u : ℕ) → u < l.index → slice_get l.units u ≡ Some (group_unit l.groups u)
