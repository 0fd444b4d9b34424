use Rattle.std.proofs.Common.{◌∙◌, ap, sym, subst, arith, length, take, refl}
use Rattle.std.proofs.lemmas.Option.{slice_get_read}
use Rattle.vault.specs.Images.{Image}
use Rattle.vault.specs.Replay.{seen_at, HasBatchAt}
use Rattle.vault.proofs.Replayed.{seen_next}
use Rattle.vault.proofs.memory.find_batch.Goals as goal

pub loop-call-preserved : goal.loop-call-preserved
loop-call-preserved c =
    let k = c.loop-call.call-index in
    let next = seen_next c.args.calls.now k c.call-item.result (slice_get_read c.args.calls.now (length c.args.calls.now) k c.call-item.result refl c.loop-call-test.true c.call-item.is) in
    record {
      count = c.count_after-count.ensures.count (seen_at (take k c.args.calls.now)) c.loop-call.invariant.count ∙ ap (λ (s : Image). length s.journal) (sym next);
      within = let grows = c.count_after-count.ensures.grows in let within = c.loop-call.invariant.within in omega (arith, grows, within);
      found = subst (λ (s : Image). HasBatchAt c.args.index s c.find_in.new.found) (sym next)
          (c.in_ok-find_in.ensures.found (seen_at (take k c.args.calls.now)) c.loop-call.invariant.count c.loop-call.invariant.found);
    }
