use Rattle.std.proofs.Common.{◌≡◌}
use Rattle.raid_images.specs.Saving.{writes_to}
use Rattle.raid_images.proofs.plan.writes.Given as goal

abbrev pub invariant-loop-drive : goal.invariant-loop-drive
invariant-loop-drive l = l.steps.items ≡ writes_to l.drive
