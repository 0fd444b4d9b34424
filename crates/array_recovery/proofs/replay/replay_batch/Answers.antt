use Rattle.std.proofs.Common.{take, sym, subst, arith}
use Rattle.std.specs.Prelude.{slice_get, List}
use Rattle.std.proofs.lemmas.List.{take_all}
use Rattle.extent_groups.specs.Cells.{Cells}
use Rattle.extent_groups.specs.Planned.{Intended, after}
use Rattle.vault.specs.Marks.{Has}
use Rattle.array_recovery.specs.Found.{HaveUnits, TakesWritten}
use Rattle.array_recovery.proofs.Patched.{takes_next}
use Rattle.array_recovery.proofs.Replaying.{write, write_is, after_more}
use Rattle.array_recovery.proofs.replay.replay_batch.Goals as goal

pub loop-index-preserved : goal.loop-index-preserved
loop-index-preserved c = record {
  formed = λ count size formed. c.replay_unit.ensures.formed count size (c.loop-index.invariant.formed count size formed);
  units = λ count size d formed have.
      let ws = c.args.batch.now in
      let i = c.loop-index.index in
      let at = write_is (slice_get ws i) c.place-place.result c.unit.result.now c.place-place.ensures c.unit.ensures in
      subst (λ (e : Cells). HaveUnits c.args.lost.now e c.replay_unit.new.caches) (sym (after_more d ws i (write c.place-place.result c.unit.result.now) at))
      (c.in_ok-replay_unit.ensures.units count size (after d (take i ws)) (c.loop-index.invariant.formed count size formed) (c.loop-index.invariant.units count size d formed have));
  taken =
      let ws = c.args.batch.now in
      let i = c.loop-index.index in
      let at = write_is (slice_get ws i) c.place-place.result c.unit.result.now c.place-place.ensures c.unit.ensures in
      takes_next (Has c.args.rotten.now.marks.items) (Has c.loop-index.rotten.marks.items) (Has c.replay_unit.new.rotten.marks.items) ws i (write c.place-place.result c.unit.result.now) at
      c.loop-index.invariant.taken c.replay_unit.ensures.taken;
}

pub returns-clause-taken : goal.returns-clause-taken
returns-clause-taken c =
    subst (λ (ws : List Intended). TakesWritten (Has c.args.rotten.now.marks.items) (Has c.loop-index.rotten.marks.items) ws)
    (take_all c.loop-index.index c.args.batch.now (omega (arith, c.loop-index-test.false, c.len-index-end.ensures)))
    c.loop-index.invariant.taken

pub returns-clause-units : goal.returns-clause-units
returns-clause-units c = λ count size d formed have.
    subst (λ (ws : List Intended). HaveUnits c.args.lost.now (after d ws) c.loop-index.caches)
    (take_all c.loop-index.index c.args.batch.now (omega (arith, c.loop-index-test.false, c.len-index-end.ensures)))
    (c.loop-index.invariant.units count size d formed have)
