use Rattle.std.proofs.Common.{◌≡◌, ◌-◌, ◌≤◌, length, ◌∙◌, arith}
use Rattle.nbd_serve.proofs.Streaming.{filled_more, length_kept}
use Rattle.nbd_serve.proofs.calls.fill.Goals as goal

pub loop-done-preserved : goal.loop-done-preserved
loop-done-preserved g c =
    let remaining = g.R.Read.remaining in
    let part : length c.read.new.buf ≡ length c.loop-done.buffer - c.loop-done.done = grind arith in
    let long = length_kept c.loop-done.buffer c.read.new.buf c.loop-done.done c.loop-done.invariant.inside part in
    record {
      inside = let count : c.in-Ok.count ≤ length c.read.new.buf = c.in-Ok.ensures.bound.0 in omega (arith, long, part, count);
      long = long ∙ c.loop-done.invariant.long;
      read =
          filled_more (remaining c.args.reader.now) _ _ c.loop-done.buffer c.read.new.buf c.loop-done.done c.in-Ok.count
          c.loop-done.invariant.inside part c.in-Ok.ensures.bound.0 c.loop-done.invariant.read c.in-Ok.ensures.bytes.0;
    }
