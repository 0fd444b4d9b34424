use Rattle.std.proofs.Common.{◌≡◌, ◌*◌, take}
use Rattle.file_vault.specs.Records.{nonzero}
use Rattle.file_vault.proofs.record.nonzero.Given as goal

abbrev pub invariant-loop-piece : goal.invariant-loop-piece
invariant-loop-piece l = l.count ≡ nonzero (take (128 * l.piece) l.fn.bytes)
