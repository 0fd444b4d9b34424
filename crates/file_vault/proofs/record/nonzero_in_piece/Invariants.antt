use Rattle.std.proofs.Common.{◌≡◌, ◌≤◌, take}
use Rattle.file_vault.specs.Records.{nonzero}
use Rattle.file_vault.proofs.record.nonzero_in_piece.Given as goal

abbrev pub invariant-loop-byte : goal.invariant-loop-byte
invariant-loop-byte l = record {
  count : l.count ≡ nonzero (take l.byte-index l.bytes);
  most : l.count ≤ l.byte-index;
}
