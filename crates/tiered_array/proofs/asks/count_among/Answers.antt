use Rattle.std.proofs.Common.{◌+◌, subst, sym, arith}
use Rattle.slot_tables.specs.Views.{key_at}
use Rattle.tiered_array.proofs.Counts.{IsCounted, counted_more, counted_skip, counted_all}
use Rattle.tiered_array.proofs.asks.count_among.Goals as goal
use Rattle.tiered_array.proofs.asks.count_among.Goals.{then-is_live, else-is_live}

pub loop-index-preserved : goal.loop-index-preserved
loop-index-preserved g c =
    let keys = key_at c.args.array.now in
    let group = c.args.group in
    let at = c.loop-index in
    elim c.if-is_live.branch [
      | then-is_live w ↦
          subst (IsCounted keys group c.args.slots (at.index + 1)) (sym w.count-is)
          (counted_more keys group c.args.slots at.index at.count c.loop-index-test.true c.requires.slots (c.is_live.ensures.0 (w.if-is_live.true)) at.invariant)
      | else-is_live w ↦
          subst (IsCounted keys group c.args.slots (at.index + 1)) (sym w.count-is)
          (counted_skip keys group c.args.slots at.index at.count (λ live. let is = c.is_live.ensures.1 live in let isnt = w.if-is_live.false in absurd (cc)) at.invariant)
    ]

pub returns : goal.returns
returns g c =
    counted_all (key_at c.args.array.now) c.args.group c.args.slots c.loop-index.index c.loop-index.count (omega arith) (omega arith) c.loop-index.invariant
