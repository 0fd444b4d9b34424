use Rattle.std.proofs.Common.{◌≡◌, ◌<◌, ℕ, suc, Some}
use Rattle.extent_groups.specs.Cells.{Cells}
use Rattle.extent_groups.specs.Planned.{after}
use Rattle.group_form.specs.Form.{HasFormPlaces, SameButGroups, group_unit}
use Rattle.group_form.proofs.write.write_groups.Given as goal

-- the first units are those of the groups
abbrev pub invariant-loop-index : goal.invariant-loop-index
invariant-loop-index l = record {
  first : (c : Cells) → HasFormPlaces c → (u : ℕ) → u < l.index → after c l.batch 16 (suc u) ≡ Some (group_unit l.groups u);
  others : (c : Cells) → SameButGroups (after c l.batch) (after c l.fn.batch);
}
