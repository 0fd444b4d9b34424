use Rattle.std.proofs.Common.{List, take, sym, subst, arith}
use Rattle.std.specs.Prelude.{slice_get}
use Rattle.std.proofs.lemmas.List.{take_all}
use Rattle.extent_groups.specs.Cells.{Cells}
use Rattle.extent_groups.specs.Planned.{Intended, after}
use Rattle.group_form.specs.Reading.{AreKnownOf}
use Rattle.group_form.proofs.Reading.{after_more, write, write_is}
use Rattle.group_form.proofs.table.lay_batch.Goals as goal

pub loop-index-preserved : goal.loop-index-preserved
loop-index-preserved c = λ d are.
    let ws = c.args.batch.now in
    let i = c.loop-index.index in
    let at = write_is (slice_get ws i) c.place.result c.unit.result.now c.place.ensures c.unit.ensures in
    subst (λ (e : Cells). AreKnownOf c.lay_unit.new.units e) (sym (after_more d ws i (write c.place.result c.unit.result.now) at))
    (c.in_ok-lay_unit.ensures (after d (take i ws)) (c.loop-index.invariant d are))

pub returns : goal.returns
returns c = λ d are.
    subst (λ (ws : List Intended). AreKnownOf c.loop-index.units (after d ws))
    (take_all c.loop-index.index c.args.batch.now (omega (arith, c.loop-index-test.false, c.len-index-end.ensures)))
    (c.loop-index.invariant d are)
