use Rattle.picture.proofs.Noting.{none_noted, noted_next}
use Rattle.picture.proofs.blocks.note_all.Goals as goal

pub loop-record-init : goal.loop-record-init
loop-record-init c = record { long = c.requires.long; noted = λ slot. none_noted c.args.records.now c.args.blocks.now.items slot (c.requires.blank slot) }

pub loop-record-preserved : goal.loop-record-preserved
loop-record-preserved c = record {
  long = c.note.ensures.long;
  noted = λ slot. noted_next c.args.records.now c.loop-record.blocks.items c.note.new.blocks.items c.loop-record.record-index slot
      (record { block = 0; version = 0; hop = 0; place = 0 }) c.loop-record-test.true c.loop-record.invariant.long c.note.ensures.place c.note.ensures.set (c.loop-record.invariant.noted slot);
}
