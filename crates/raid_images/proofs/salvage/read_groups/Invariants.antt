use Rattle.raid_images.specs.Reading.{CanRead}
use Rattle.raid_images.proofs.salvage.read_groups.Given as goal

abbrev pub invariant-loop-group : goal.invariant-loop-group
invariant-loop-group l = CanRead l.reader
