use Rattle.raid_images.specs.Reading.{CanRead}
use Rattle.raid_images.proofs.salvage.read_group.Given as goal

abbrev pub invariant-loop-index : goal.invariant-loop-index
invariant-loop-index l = CanRead l.reader
