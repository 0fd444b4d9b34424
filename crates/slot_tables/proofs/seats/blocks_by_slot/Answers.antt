use Rattle.std.proofs.Common.{arith}
use Rattle.slot_tables.proofs.Seated.{none_expected, place_low, expected_next}
use Rattle.slot_tables.proofs.seats.blocks_by_slot.Goals as goal

pub index_mut-requires : goal.index_mut-requires
index_mut-requires c =
    let low = place_low c.args.records.now c.loop-index.index c.args.slots (record { block = 0; version = 0; hop = 0; place = 0 }) c.from.result c.loop-index-test.true c.from.ensures c.requires in
    let many = c.loop-index.invariant.many in
    omega (arith, low, many)

pub loop-index-init : goal.loop-index-init
loop-index-init c = none_expected c.args.slots c.in_ok-expected.expected.items c.in_ok-expected.ensures

pub loop-index-preserved : goal.loop-index-preserved
loop-index-preserved c = expected_next c.args.records.now c.loop-index.index c.args.slots c.loop-index.expected.items (record { block = 0; version = 0; hop = 0; place = 0 }) c.from.result c.loop-index-test.true c.from.ensures c.requires c.loop-index.invariant
