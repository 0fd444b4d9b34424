use Rattle.std.proofs.Common.{rules, subst}
use Rattle.std.proofs.lemmas.List.{take_all}
use Rattle.map_join.specs.declared.records.Record.{Record}
use Rattle.raid_c.specs.Lists.{AreRecords}
use Rattle.raid_c.proofs.Lists.{next_record}
use Rattle.raid_c.proofs.join.bytes_of.Goals as goal

pub loop-record-init : goal.loop-record-init
loop-record-init c = c.new-bytes.ensures.items

pub loop-record-preserved : goal.loop-record-preserved
loop-record-preserved c =
    let none : Record = record { block = 0; version = 0; hop = 0; place = 0 } in
    next_record c.args.records.now c.loop-record.record-index none c.loop-record.bytes.items c.to_bytes.result c.extend_from_slice.new.self.items
    c.loop-record-test.true c.requires c.loop-record.invariant (search rules) c.in_ok-extend_from_slice.ensures.items

pub returns : goal.returns
returns c = subst (λ rs. AreRecords c.loop-record.bytes.items rs) (take_all c.loop-record.record-index c.args.records.now c.loop-record-test.false) c.loop-record.invariant
