use Rattle.std.proofs.Common.{sym, subst, take}
use Rattle.std.specs.Prelude.{slice_get}
use Rattle.extent_groups.specs.Cells.{Cells}
use Rattle.extent_groups.specs.Planned.{after}
use Rattle.array_recovery.specs.Found.{AreMarksIf}
use Rattle.array_recovery.proofs.Replaying.{write, write_is, after_more}
use Rattle.array_recovery.proofs.marks.mark_batch.Goals as goal

pub loop-index-preserved : goal.loop-index-preserved
loop-index-preserved c = λ d are.
    let ws = c.args.batch.now in
    let i = c.loop-index.index in
    let at = write_is (slice_get ws i) c.place-place.result c.unit.result.now c.place-place.ensures c.unit.ensures in
    subst (λ (e : Cells). AreMarksIf c.mark_unit.new.is_known c.mark_unit.new.marks e) (sym (after_more d ws i (write c.place-place.result c.unit.result.now) at))
    (c.in_ok-mark_unit.ensures (after d (take i ws)) (c.loop-index.invariant d are))
