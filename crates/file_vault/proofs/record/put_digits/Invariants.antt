use Rattle.std.proofs.Common.{◌≡◌, ◌-◌, ◌++◌, length, take}
use Rattle.file_vault.specs.Records.{digits}
use Rattle.file_vault.proofs.record.put_digits.Given as goal

abbrev pub invariant-loop-digit : goal.invariant-loop-digit
invariant-loop-digit l = take l.digit-index l.out ++ digits (length l.out - l.digit-index) l.rest ≡ digits (length l.fn.out) l.fn.number
