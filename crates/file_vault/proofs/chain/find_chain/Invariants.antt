use Rattle.std.proofs.Common.{◌-◌, ◌≤◌, ◌^◌}
use Rattle.file_vault.specs.Recoveries.{OnlyRead, HasChain}
use Rattle.file_vault.proofs.chain.find_chain.Given as goal

abbrev pub decreases-loop-chain : goal.decreases-loop-chain
decreases-loop-chain g l = 2 ^ 62 - l.chain.end

abbrev pub invariant-loop-chain : goal.invariant-loop-chain
invariant-loop-chain g l = record {
  read : g.F.Files.known l.fn.files → OnlyRead g.F.Files.known g.F.Files.seen g.F.Files.may_leave g.F.Files.moment g.F.Files.left_since g.F.Files.faults l.fn.files l.files;
  chain : g.F.Files.known l.fn.files → HasChain (g.F.Files.seen l.fn.files 17) l.chain.places.items l.chain.end;
  inside : l.chain.end ≤ 2 ^ 62;
}
