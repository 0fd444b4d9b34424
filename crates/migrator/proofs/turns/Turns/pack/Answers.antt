use Rattle.std.proofs.Common.{◌≡◌, ◌∙◌, ◌+◌, ◌*◌, ◌<◌, ◌≤◌, ◌++◌, ap, get_or, length, set, subst, sym, take, arith}
use Rattle.std.specs.Vec.{vec_capacity}
use Rattle.std.proofs.lemmas.List.{get_or_default}
use Rattle.migrator.specs.Inside.{AreTurns, first_turns, in_order, order_of, KeepsFront}
use Rattle.migrator.proofs.Packed.{ArePacked, packed_block, packed_front, packed_gap, packed_order, packed_room, packed_turns}
use Rattle.migrator.proofs.turns.Turns.pack.Goals as goal
use Rattle.migrator.proofs.turns.Turns.pack.Goals.{then-number-blocks, else-number-blocks}

pub loop-at-preserved : goal.loop-at-preserved
loop-at-preserved c =
    let i = c.self.inside in
    let xs = i.later.items in
    let ys = c.loop-at.self-inside.later.items in
    let ts = c.loop-at.self-inside.turns in
    let at = c.loop-at.at in
    let number = c.index-number.result.now in
    let p = c.loop-at.invariant.packed in
    let n = c.blocks-blocks.ensures.blocks in
    let here : at < length xs = omega (arith, c.loop-at-test.true, c.len-at-end.ensures) in
    let is : number ≡ get_or ys at 0 = c.index-number.ensures ∙ get_or_default ys at _ 0 (omega (arith, here, p.filtered.long)) in
    elim c.if-number-blocks.branch [
      | then-number-blocks w ↦ rw (w.self-inside-is, w.packed-is) (record {
        room = c.loop-at.invariant.room;
        packed = subst (λ us. ArePacked (length i.turns) xs i.turns (set ys c.loop-at.packed number) us (c.loop-at.packed + 1) (at + 1)) (sym w.replace.ensures.turns)
            (packed_block i.turns xs c.self.invariant.at ys ts c.loop-at.packed at p here number is (omega (arith, w.if-number-blocks.true, n))
            (c.blocks-blocks.result + c.loop-at.packed) (omega (arith, n)));
      })
      | else-number-blocks w ↦ rw (w.self-inside-is, w.packed-is) (record {
        room = c.loop-at.invariant.room;
        packed = packed_gap i.turns xs c.self.invariant.at ys ts c.loop-at.packed at p here (omega (arith, w.if-number-blocks.false, n, is));
      })
    ]

pub invariant_of-self : goal.invariant_of-self
invariant_of-self c =
    let i = c.self.inside in
    let l = c.loop-at in
    let end : length i.later.items ≤ l.at = omega (arith, c.loop-at-test.false, c.len-at-end.ensures) in
    let turns = packed_turns i.turns i.later.items c.self.invariant.at l.self-inside.later.items l.self-inside.turns l.packed l.at l.invariant.packed end (vec_capacity i.later) c.self.invariant in
    subst (λ xs. AreTurns l.self-inside.turns xs (vec_capacity c.truncate.new.self)) (sym c.truncate.ensures.items)
    (subst (λ room. AreTurns l.self-inside.turns (take l.packed l.self-inside.later.items) room) (sym (c.truncate.ensures.capacity ∙ l.invariant.room)) turns)

pub returns-clause-order : goal.returns-clause-order
returns-clause-order c =
    let i = c.self.inside in
    let l = c.loop-at in
    let end : length i.later.items ≤ l.at = omega (arith, c.loop-at-test.false, c.len-at-end.ensures) in
    ap (λ xs. in_order (order_of l.self-inside.turns xs)) c.truncate.ensures.items
    ∙ packed_order i.turns i.later.items c.self.invariant.at l.self-inside.later.items l.self-inside.turns l.packed l.at l.invariant.packed end
    (vec_capacity i.later) c.self.invariant c.args.self.now c.self.view_is

pub returns-clause-room : goal.returns-clause-room
returns-clause-room c =
    let i = c.self.inside in
    let l = c.loop-at in
    let end : length i.later.items ≤ l.at = omega (arith, c.loop-at-test.false, c.len-at-end.ensures) in
    subst (λ xs. length (first_turns l.self-inside.turns ++ xs) ≤ 2 * length (in_order c.args.self.now)) (sym c.truncate.ensures.items)
    (packed_room i.turns i.later.items c.self.invariant.at l.self-inside.later.items l.self-inside.turns l.packed l.at l.invariant.packed end
    (vec_capacity i.later) c.self.invariant c.args.self.now c.self.view_is)

pub returns-clause-front : goal.returns-clause-front
returns-clause-front c =
    let i = c.self.inside in
    let l = c.loop-at in
    let end : length i.later.items ≤ l.at = omega (arith, c.loop-at-test.false, c.len-at-end.ensures) in
    subst (λ xs. KeepsFront (length (in_order c.args.self.now)) c.args.self.now (order_of l.self-inside.turns xs)) (sym c.truncate.ensures.items)
    (packed_front i.turns i.later.items c.self.invariant.at l.self-inside.later.items l.self-inside.turns l.packed l.at l.invariant.packed end
    (vec_capacity i.later) c.self.invariant c.args.self.now c.self.view_is)
