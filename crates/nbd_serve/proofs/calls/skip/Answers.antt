use Rattle.std.proofs.Common.{◌≡◌, ◌+◌, ◌≤◌, length, take, ◌∙◌, arith}
use Rattle.std.proofs.lemmas.List.{length-take-le}
use Rattle.nbd_serve.proofs.Streaming.{refilled, short_after, skipped_more}
use Rattle.nbd_serve.specs.Streams.{end_by}
use Rattle.nbd_serve.proofs.calls.skip.Goals as goal

pub loop-done-preserved : goal.loop-done-preserved
loop-done-preserved g c =
    let remaining = g.R.Read.remaining in
    let before = c.loop-done.invariant.read in
    let scratch : length c.loop-done.scratch ≡ 4096 = c.loop-done.invariant.scratch in
    let part : length (take c.min-size.result c.loop-done.scratch) ≡ c.min-size.result = length-take-le _ c.loop-done.scratch (omega (arith, c.min-size.ensures, scratch)) in
    let size : length c.fill.new.buffer ≡ c.min-size.result = c.fill.auto.buffer ∙ part in
    record {
      scratch = refilled c.fill.new.buffer c.loop-done.scratch c.min-size.result size scratch (omega (arith, c.min-size.ensures, scratch));
      inside = grind arith;
      read = skipped_more (remaining c.args.reader.now) _ _ c.loop-done.done c.min-size.result c.fill.new.buffer before c.in-Ok.ensures.whole size;
    }

pub returns-in-Err-clause-part : goal.returns-in-Err-clause-part
returns-in-Err-clause-part g c =
    let remaining = g.R.Read.remaining in
    let before = c.loop-done.invariant.read in
    let scratch : length c.loop-done.scratch ≡ 4096 = c.loop-done.invariant.scratch in
    let part : length (take c.min-size.result c.loop-done.scratch) ≡ c.min-size.result = length-take-le _ c.loop-done.scratch (omega (arith, c.min-size.ensures, scratch)) in
    let fits : length before.bytes + length (take c.min-size.result c.loop-done.scratch) ≤ c.args.count = omega (arith, part, before.size, c.min-size.ensures, c.loop-done-test.true) in
    short_after (end_by c.in-Err.short) (remaining c.args.reader.now) _ _ before.bytes _ c.args.count before.read c.in-Err.ensures.part fits
