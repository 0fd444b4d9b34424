use Rattle.std.proofs.Common.{◌≡◌, ◌-◌, ◌++◌, length, take}
use Rattle.file_vault.specs.Generations.{stamp_bytes}
use Rattle.file_vault.proofs.stamp.put_code.Given as goal

abbrev pub invariant-loop-byte : goal.invariant-loop-byte
invariant-loop-byte l = take l.byte-index l.out ++ stamp_bytes (length l.out - l.byte-index) l.rest ≡ stamp_bytes (length l.fn.out) l.fn.generation
