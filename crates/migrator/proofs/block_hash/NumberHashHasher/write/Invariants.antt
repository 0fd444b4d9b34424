use Rattle.std.proofs.Common.{◌≡◌, ◌+◌, ◌*◌, ◌/◌, ◌^◌, take, fold}
use Rattle.migrator.proofs.block_hash.NumberHashHasher.write.Given as goal

abbrev pub invariant-loop-byte : goal.invariant-loop-byte
invariant-loop-byte l = l.number ≡ fold (λ number byte. number / 256 + byte * 2 ^ 24) 0 (take l.byte-index l.bytes)
