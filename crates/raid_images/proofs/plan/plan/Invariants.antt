use Rattle.std.proofs.Common.{◌≡◌, ◌++◌, ◌∷◌, []}
use Rattle.raid_images.specs.declared.plan.Step.TheVariants.{Commit}
use Rattle.raid_images.specs.Saving.{writes_to, renames_to}
use Rattle.raid_images.proofs.plan.plan.Given as goal

abbrev pub invariant-loop-drive : goal.invariant-loop-drive
invariant-loop-drive l = l.steps.items ≡ (writes_to l.drives ++ Commit ∷ []) ++ renames_to l.drive
