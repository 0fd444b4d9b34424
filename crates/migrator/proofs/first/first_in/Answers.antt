use Rattle.std.proofs.Common.{◌%◌, arith, below_more, subst, sym}
use Rattle.std.proofs.lemmas.Bool.{iff_false}
use Rattle.migrator.specs.First.{IsFreePick}
use Rattle.migrator.proofs.Firsts.{slot_is}
use Rattle.migrator.proofs.first.first_in.Goals as goal
use Rattle.migrator.proofs.first.first_in.Goals.{else-picks_slot-via-then-picks_slot+else-is_free, else-picks_slot-via-else-picks_slot}

pub loop-index-preserved : goal.loop-index-preserved
loop-index-preserved g c =
    elim c.else-picks_slot.branch [
      | else-picks_slot-via-then-picks_slot+else-is_free w ↦
          below_more _ _ c.loop-index.invariant (λ p. iff_false w.is_free.ensures w.if-is_free.false p.is_free)
      | else-picks_slot-via-else-picks_slot w ↦
          below_more _ _ c.loop-index.invariant (λ p. iff_false c.picks_slot.ensures w.if-picks_slot.false p.picked.slot_too)
    ]

pub returns : goal.returns
returns g c = λ slot p.
    let P = IsFreePick c.args.class c.args.groups.now (g.P.Picks.group_is c.args.which.now) (g.P.Picks.slot_is c.args.which.now) (g.F.Free.free c.args.free.now) in
    let below = (c.count_of-index-end.ensures.just slot p.0).0 p.1.picked.slot_of in
    c.loop-index.invariant (slot % 128) (omega (arith, below, c.loop-index-test.false)) (subst P (sym (slot_is c.args.group slot p.0)) p.1)
