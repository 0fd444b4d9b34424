use Rattle.std.proofs.Common.{sym, subst, length, take, refl}
use Rattle.std.proofs.lemmas.Option.{slice_get_read}
use Rattle.vault.specs.Images.{Image}
use Rattle.vault.specs.Moments.{IsUnitThere}
use Rattle.vault.proofs.Replayed.{seen_next}
use Rattle.vault.proofs.memory.find_unit.Goals as goal

pub loop-call-preserved : goal.loop-call-preserved
loop-call-preserved c =
    let k = c.loop-call.call-index in
    let next = seen_next c.args.calls.now k c.call-item.result (slice_get_read c.args.calls.now (length c.args.calls.now) k c.call-item.result refl c.loop-call-test.true c.call-item.is) in
    subst (λ (s : Image). IsUnitThere s.cells c.args.place c.unit_after-there.new.out c.unit_after-there.result) (sym next)
    (c.unit_after-there.ensures (take k c.args.calls.now) c.loop-call.invariant)
