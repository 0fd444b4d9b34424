use Rattle.std.proofs.Common.{◌≡◌, ◌<◌, ◌-◌, ◌^◌, true, drop}
use Rattle.file_vault.specs.Records.{from_digits, are_digits}
use Rattle.file_vault.proofs.record.number_in.Given as goal

abbrev pub invariant-loop-index : goal.invariant-loop-index
invariant-loop-index l = record {
  number : l.number ≡ from_digits (drop (9 - l.index) l.fn.bytes);
  are : are_digits (drop (9 - l.index) l.fn.bytes) ≡ true;
  small : l.number < 128 ^ l.index;
}
