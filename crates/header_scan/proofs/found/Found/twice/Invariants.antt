use Rattle.map_join.specs.Maps.{at}
use Rattle.header_scan.specs.Found.{key_in, HasNoTwins}
use Rattle.header_scan.proofs.found.Found.twice.Given as goal

abbrev pub invariant-loop-block : goal.invariant-loop-block
invariant-loop-block l = HasNoTwins (key_in l.self.newest) (at l.self.twins) l.block
