use Rattle.std.proofs.Common.{◌≡◌}
use Rattle.unit_digest.specs.Digests.{first_sums, sums_over}
use Rattle.unit_digest.proofs.digest.digest_of.Given as goal

-- the sums over the first words
abbrev pub invariant-loop-index : goal.invariant-loop-index
invariant-loop-index l = l.sums ≡ sums_over (first_sums l.drive l.address) l.unit l.index
