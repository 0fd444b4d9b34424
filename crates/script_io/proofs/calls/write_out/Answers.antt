use Rattle.std.proofs.Common.{false, refl}
use Rattle.script_io.proofs.Feeds.{not_empty}
use Rattle.script_io.proofs.Writes.{following, part_written, wrote_more, wrote_none}
use Rattle.script_io.proofs.calls.write_out.Goals as goal

pub loop-rest-preserved : goal.loop-rest-preserved
loop-rest-preserved g c =
    let contents = g.W.Write.contents in
    rw following (wrote_more (contents c.args.writer.now) (contents c.loop-rest.writer) (contents c.write.new.self) c.args.bytes.now
    c.loop-rest.rest.now c.in-Ok.count c.loop-rest.invariant c.in-Ok.ensures.bytes)

pub returns-in-Ok-eq0-clause-part : goal.returns-in-Ok-eq0-clause-part
returns-in-Ok-eq0-clause-part g c =
    let contents = g.W.Write.contents in
    part_written _ _ c.args.bytes.now _ (wrote_more (contents c.args.writer.now) (contents c.loop-rest.writer) (contents c.write.new.self)
    c.args.bytes.now c.loop-rest.rest.now c.in-Ok-eq0.field-0 c.loop-rest.invariant c.in-Ok-eq0.ensures.bytes)
    (rw c.in-Ok-eq0.field-0-test (not_empty _ false c.loop-rest-test.ensures refl))

pub returns-in-Err-clause-part : goal.returns-in-Err-clause-part
returns-in-Err-clause-part g c =
    let contents = g.W.Write.contents in
    part_written _ _ c.args.bytes.now _ (wrote_none (contents c.args.writer.now) (contents c.loop-rest.writer) (contents c.write.new.self)
    c.args.bytes.now c.loop-rest.rest.now c.loop-rest.invariant c.in-Err.ensures.bytes)
    (not_empty _ false c.loop-rest-test.ensures refl)
