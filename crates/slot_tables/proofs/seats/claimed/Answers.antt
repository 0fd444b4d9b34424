use Rattle.std.proofs.Common.{arith}
use Rattle.slot_tables.proofs.Seated.{none_marked, marked_next, marked_all}
use Rattle.slot_tables.proofs.seats.claimed.Goals as goal

pub loop-index-init : goal.loop-index-init
loop-index-init g c = none_marked g.C.Hold.names c.args.slots c.in_ok-marks.marks.items c.in_ok-marks.ensures

pub loop-index-preserved : goal.loop-index-preserved
loop-index-preserved g c = rw c.mark.ensures (marked_next g.C.Hold.names c.args.claims.now c.loop-index.index c.args.slots c.loop-index.marks.items c.index-claims-index.result c.slot.result c.loop-index-test.true c.index-claims-index.is c.slot.ensures c.loop-index.invariant)

pub returns-clause-many : goal.returns-clause-many
returns-clause-many g c = c.loop-index.invariant.many

pub returns-clause-each : goal.returns-clause-each
returns-clause-each g c = marked_all g.C.Hold.names c.args.claims.now c.loop-index.index c.args.slots c.loop-index.marks.items (let p = c.loop-index-test.false in let q = c.loop-index.auto.index-end in omega (arith, p, q)) c.loop-index.invariant
