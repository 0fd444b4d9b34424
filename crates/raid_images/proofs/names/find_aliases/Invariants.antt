use Rattle.std.proofs.Common.{ℕ, ◌<◌}
use Rattle.raid_images.specs.Names.{AreTwins}
use Rattle.raid_images.proofs.names.find_aliases.Given as goal

abbrev pub invariant-loop-higher : goal.invariant-loop-higher
invariant-loop-higher l = (k : ℕ) → k < l.higher → (lower : ℕ) → AreTwins l.spots lower k → ⊥
