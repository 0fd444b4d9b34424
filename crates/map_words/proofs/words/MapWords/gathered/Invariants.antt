use Rattle.std.proofs.Common.{◌≡◌}
use Rattle.map_join.specs.Maps.{at}
use Rattle.map_words.proofs.Gathering.{Gathered}
use Rattle.map_words.proofs.words.MapWords.gathered.Given as goal

-- the blocks so far have their last keys, and the others none
abbrev pub invariant-loop-block : goal.invariant-loop-block
invariant-loop-block g l = (l.taker ≡ l.initial.taker) × Gathered l.taker l.block (at l.map)
