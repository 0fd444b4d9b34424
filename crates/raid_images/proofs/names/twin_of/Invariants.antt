use Rattle.std.proofs.Common.{ℕ, ◌<◌}
use Rattle.raid_images.specs.Names.{AreTwins}
use Rattle.raid_images.proofs.names.twin_of.Given as goal

abbrev pub invariant-loop-lower : goal.invariant-loop-lower
invariant-loop-lower l = (k : ℕ) → k < l.lower → AreTwins l.spots k l.higher → ⊥
