use Rattle.std.proofs.Common.{subst, List, ℕ, length}
use Rattle.map_join.specs.declared.records.Record.{Record}
use Rattle.picture.specs.Blocks.{IsMappedBlock, block_in}
use Rattle.picture.proofs.Noting.{blank_in, table_of}
use Rattle.picture.proofs.blocks.blocks_by_slot.Goals as goal

pub note_all-requires-clause-blank : goal.note_all-requires-clause-blank
note_all-requires-clause-blank c = λ slot. blank_in c.in_ok-blocks.blocks.items 65536 slot c.in_ok-blocks.ensures

pub returns : goal.returns
returns c = table_of c.args.map.now c.in-Ok.records.items c.note_all.new.blocks.items c.in-Ok.ensures.list c.note_all.ensures.long
    (subst (λ (records : List Record). (slot : ℕ) → IsMappedBlock records (length records) slot (block_in c.note_all.new.blocks.items slot)) c.deref.ensures.value c.note_all.ensures.noted)
