use Rattle.std.proofs.Common.{◌≡◌, ◌+◌, ◌*◌, ◌/◌, ◌%◌, arith, refl, sym, subst}
use Rattle.std.proofs.lemmas.Bool.{iff_false}
use Rattle.map_join.specs.Lists.{ListsBelow}
use Rattle.map_join.proofs.Rising.{below_skip, below_more}
use Rattle.migrator.specs.Picking.{IsPicked}
use Rattle.migrator.proofs.slots.push_picked.Goals as goal
use Rattle.migrator.proofs.slots.push_picked.Goals.{then-picks_slot+in_ok-push, else-picks_slot}

pub loop-index-preserved : goal.loop-index-preserved
loop-index-preserved g c =
    let P = IsPicked c.args.class c.args.groups.now (g.P.Picks.group_is c.args.which.now) (g.P.Picks.slot_is c.args.which.now) in
    let a = 128 * c.args.group + c.loop-index.index in
    let few = c.count_of-index-end.ensures.few in
    let next : a + 1 ≡ 128 * c.args.group + (c.loop-index.index + 1) = omega arith in
    let div : a / 128 ≡ c.args.group = omega (arith, few, c.loop-index-test.true) in
    let rest : a % 128 ≡ c.loop-index.index = omega (arith, few, c.loop-index-test.true) in
    let slot = (c.count_of-index-end.ensures.just a div).1 (omega (arith, rest, c.loop-index-test.true)) in
    let own = subst (g.P.Picks.group_is c.args.which.now) (sym div) c.requires.picked in
    elim c.if-picks_slot.branch [
      | then-picks_slot+in_ok-push w ↦ rw (w.slots-is) (subst (λ n. ListsBelow P n w.push.new.self.items) next
          (subst (λ l. ListsBelow P (a + 1) l) (sym w.in_ok-push.ensures.items)
          (below_more P a c.loop-index.slots.items (record { slot_of = slot; group_too = own; slot_too = w.if-picks_slot.ensures.0 refl }) c.loop-index.invariant)))
      | else-picks_slot w ↦ rw (w.slots-is) (subst (λ n. ListsBelow P n c.loop-index.slots.items) next
          (below_skip P a (a + 1) c.loop-index.slots.items (omega arith) (λ s low high p.
          let same : s ≡ a = omega arith in
          iff_false c.picks_slot.ensures w.if-picks_slot.false (subst (g.P.Picks.slot_is c.args.which.now) same p.slot_too)) c.loop-index.invariant))
    ]

pub returns : goal.returns
returns g c =
    let a = 128 * c.args.group + c.loop-index.index in
    let few = c.count_of-index-end.ensures.few in
    below_skip (IsPicked c.args.class c.args.groups.now (g.P.Picks.group_is c.args.which.now) (g.P.Picks.slot_is c.args.which.now)) a (128 * (c.args.group + 1)) c.loop-index.slots.items
    (omega (arith, few, c.loop-index.auto.index-end))
    (λ s low high p.
    let div : s / 128 ≡ c.args.group = omega (arith, low, high) in
    let below = (c.count_of-index-end.ensures.just s div).0 p.slot_of in
    omega (arith, low, high, div, below, c.loop-index-test.false))
    c.loop-index.invariant
