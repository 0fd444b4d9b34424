use Rattle.std.proofs.Common.{◌≡◌, ℕ, length}
use Rattle.picture.specs.Blocks.{IsMappedBlock, block_in}
use Rattle.picture.proofs.blocks.note_all.Given as goal

abbrev pub invariant-loop-record : goal.invariant-loop-record
invariant-loop-record l = record {
  long : length l.blocks.items ≡ 65536;
  noted : (slot : ℕ) → IsMappedBlock l.records l.record-index slot (block_in l.blocks.items slot);
}
