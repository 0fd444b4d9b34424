use Rattle.std.proofs.Common.{◌≡◌, ◌∙◌, ◌+◌, ◌*◌, get_or, refl, sym, arith}
use Rattle.slot_tables.specs.Views.{Nothing}
use Rattle.slot_tables.specs.Kept.{kepts_of}
use Rattle.slot_tables.specs.Counted.{newest_in}
use Rattle.slot_tables.proofs.Counts.{below_none, more_below, newest_none, newest_one, no_more}
use Rattle.disk_array.proofs.Uncounted.{none_past}
use Rattle.disk_array.proofs.live.count_newest.Goals as goal
use Rattle.disk_array.proofs.live.count_newest.Goals.{then-is_live, else-is_live}

pub loop-index-init : goal.loop-index-init
loop-index-init g c = sym (below_none (kepts_of c.args.places.now) c.args.group)

pub overflow_add-count : goal.overflow_add-count
overflow_add-count g c =
    let few = no_more (kepts_of c.args.places.now) c.args.group c.loop-index.index in
    let is = c.loop-index.invariant in
    omega (arith, few, is)

pub loop-index-preserved : goal.loop-index-preserved
loop-index-preserved g c =
    let kept = kepts_of c.args.places.now in
    let at = c.loop-index in
    let k = get_or kept (128 * c.args.group + at.index) Nothing in
    let more = more_below kept c.args.group at.index at.count k refl at.invariant in
    elim c.if-is_live.branch [
      | then-is_live w ↦
          let one : newest_in k ≡ 1 = newest_one k (sym c.is_live.ensures ∙ w.if-is_live.true) in
          let count = w.count-is in
          omega (arith, more, one, count)
      | else-is_live w ↦
          let none : newest_in k ≡ 0 = newest_none k (sym c.is_live.ensures ∙ w.if-is_live.false) in
          let count = w.count-is in
          omega (arith, more, none, count)
    ]

pub returns-then-from-places : goal.returns-then-from-places
returns-then-from-places g c =
    let past = c.if-from-places.true in
    sym (none_past c.args.places.now c.args.group 128 (omega (arith, past)))
