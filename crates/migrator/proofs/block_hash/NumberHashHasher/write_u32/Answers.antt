use Rattle.std.proofs.Common.{arith}
use Rattle.migrator.proofs.Hashed.{number_of_bytes}
use Rattle.migrator.proofs.block_hash.NumberHashHasher.write_u32.Goals as goal

pub returns : goal.returns
returns c = λ i. record { 0 = number_of_bytes c.args.i (omega (arith, c.ranges.i)) i }
