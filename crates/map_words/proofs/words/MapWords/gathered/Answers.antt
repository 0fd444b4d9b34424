use Rattle.std.proofs.Common.{◌≡◌, rules}
use Rattle.map_join.specs.Maps.{at}
use Rattle.map_words.specs.Places.{blocks_of}
use Rattle.map_words.proofs.Gathering.{skips, joins, ends, tops, exacts}
use Rattle.map_words.proofs.words.MapWords.gathered.Goals as goal

pub loop-block-preserved-in_default : goal.loop-block-preserved-in_default
loop-block-preserved-in_default g c = ((search rules), rw c.in_default.ensures.same (skips _ c.loop-block.block (at c.loop-block.map) c.loop-block.invariant.1 (search rules)))

pub loop-block-preserved : goal.loop-block-preserved
loop-block-preserved g c = (
  (search rules),
  rw c.greatest.ensures.same
      (joins _ c.loop-block.block (at c.loop-block.map) (at c.take.new.self) c.in-Some.«record» c.loop-block.invariant.1 (search rules)
      (c.in-Some.ensures.greatest, c.in-Some.ensures.newest, c.in-Some.ensures.exact) (search rules)),
)

pub returns-clause-map : goal.returns-clause-map
returns-clause-map g c =
    let all : c.loop-block.block ≡ blocks_of g.N.Naming.table = search rules in
    rw (← c.loop-block.invariant.0) (ends _ c.loop-block.block (at c.loop-block.map) c.loop-block.invariant.1 (rw (c.loop-block.invariant.0, all) c.requires.taken))

pub returns-clause-found : goal.returns-clause-found
returns-clause-found g c =
    let all : c.loop-block.block ≡ blocks_of g.N.Naming.table = search rules in
    rw (← c.loop-block.invariant.0) (tops _ c.loop-block.block (at c.loop-block.map) c.loop-block.invariant.1 (rw (c.loop-block.invariant.0, all) c.requires.found))

pub returns-clause-exact : goal.returns-clause-exact
returns-clause-exact g c =
    let all : c.loop-block.block ≡ blocks_of g.N.Naming.table = search rules in
    rw (← c.loop-block.invariant.0) (exacts _ c.loop-block.block (at c.loop-block.map) c.loop-block.invariant.1 (rw (c.loop-block.invariant.0, all) c.requires.found))
