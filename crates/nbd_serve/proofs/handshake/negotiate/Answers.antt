use Rattle.std.proofs.Common.{◌∙◌}
use Rattle.nbd_serve.proofs.Turns.{asked_more, negotiated}
use Rattle.nbd_serve.proofs.handshake.negotiate.Goals as goal

pub returns-in-Some : goal.returns-in-Some
returns-in-Some g c =
    negotiated c.in-Some.done _ c.args.export.now c.args.no_zeroes _ _ _ _ _ _ c.loop-taken.invariant.asked c.in-Some.ensures

pub loop-taken-preserved : goal.loop-taken-preserved
loop-taken-preserved g c = record {
  room = c.option.auto.buffer ∙ c.loop-taken.invariant.room;
  asked =
      asked_more c.args.export.now c.args.no_zeroes c.loop-taken.taken _ _ _ _ _ _ c.loop-taken.invariant.asked
      (rw c.in_default.is at c.option.ensures);
}
