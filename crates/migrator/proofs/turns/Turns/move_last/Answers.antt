use Rattle.std.proofs.Common.{◌≡◌, ◌∙◌, ◌+◌, ◌-◌, ◌<◌, ◌≤◌, ap, get_or, length, set, subst, sym, arith}
use Rattle.std.specs.Vec.{vec_capacity}
use Rattle.migrator.specs.Inside.{in_order, KeepsFront}
use Rattle.migrator.proofs.Turned.{after_front, after_in, after_length, after_order, after_same, as_long_following, count_order, free, length_kept}
use Rattle.migrator.proofs.turns.Turns.move_last.Goals as goal

pub replace-turn-requires : goal.replace-turn-requires
replace-turn-requires c =
    let i = c.self.inside in
    omega (arith, count_order i.turns i.later.items (vec_capacity i.later) c.args.self.now c.self.invariant c.self.view_is, c.requires.block)

pub leave_gap-requires : goal.leave_gap-requires
leave_gap-requires c =
    let i = c.self.inside in
    let block : c.args.block < length i.turns = omega (arith, count_order i.turns i.later.items (vec_capacity i.later) c.args.self.now c.self.invariant c.self.view_is, c.requires.block) in
    let used = c.self.invariant.at.used c.args.block block in
    omega (arith, used, length_kept i.turns i.later.items, c.replace-turn.ensures.turn, c.blocks-blocks.ensures.blocks)

pub push_reserved-requires : goal.push_reserved-requires
push_reserved-requires c =
    let i = c.self.inside in
    let left = get_or i.turns c.args.block 0 in
    let following = c.leave_gap.new.later.items in
    let n = c.blocks-blocks.ensures.blocks in
    let turn = c.replace-turn.ensures.turn in
    let first : left < length i.turns → following ≡ i.later.items = λ l. c.leave_gap.ensures.first (omega (arith, l, n, turn)) in
    let high : length i.turns ≤ left → following ≡ set i.later.items (left - length i.turns) (length i.turns) =
    λ h. c.leave_gap.ensures.gap (omega (arith, h, n, turn)) ∙ (λ j. set i.later.items (turn j - n j) (n j)) in
    let long = as_long_following c.args.block (vec_capacity i.later) i.turns i.later.items following c.self.invariant c.args.self.now c.self.view_is c.requires.block c.requires.room
    (c.blocks-blocks.result + c.len.result) (omega (arith, n, c.len.ensures)) first high in
    let room = free c.args.block (vec_capacity i.later) i.turns i.later.items following c.self.invariant c.args.self.now c.self.view_is c.requires.block c.requires.room
    (c.blocks-blocks.result + c.len.result) (omega (arith, n, c.len.ensures)) first high in
    omega (arith, long, room, c.leave_gap.ensures.room, c.self.invariant.room)

pub invariant_of-self : goal.invariant_of-self
invariant_of-self c =
    let i = c.self.inside in
    let left = get_or i.turns c.args.block 0 in
    let following = c.leave_gap.new.later.items in
    let n = c.blocks-blocks.ensures.blocks in
    let turn = c.replace-turn.ensures.turn in
    let first : left < length i.turns → following ≡ i.later.items = λ l. c.leave_gap.ensures.first (omega (arith, l, n, turn)) in
    let high : length i.turns ≤ left → following ≡ set i.later.items (left - length i.turns) (length i.turns) =
    λ h. c.leave_gap.ensures.gap (omega (arith, h, n, turn)) ∙ (λ j. set i.later.items (turn j - n j) (n j)) in
    after_in c.args.block (vec_capacity i.later) i.turns i.later.items following c.self.invariant c.args.self.now c.self.view_is c.requires.block c.requires.room
    (c.blocks-blocks.result + c.len.result) (omega (arith, n, c.len.ensures)) first high
    c.replace-turn.new.self c.push_reserved.new.self.items (vec_capacity c.push_reserved.new.self) c.replace-turn.ensures.turns c.push_reserved.ensures.items
    (c.push_reserved.ensures.capacity ∙ c.leave_gap.ensures.room)

pub returns-clause-order : goal.returns-clause-order
returns-clause-order c =
    let i = c.self.inside in
    let left = get_or i.turns c.args.block 0 in
    let following = c.leave_gap.new.later.items in
    let n = c.blocks-blocks.ensures.blocks in
    let turn = c.replace-turn.ensures.turn in
    let first : left < length i.turns → following ≡ i.later.items = λ l. c.leave_gap.ensures.first (omega (arith, l, n, turn)) in
    let high : length i.turns ≤ left → following ≡ set i.later.items (left - length i.turns) (length i.turns) =
    λ h. c.leave_gap.ensures.gap (omega (arith, h, n, turn)) ∙ (λ j. set i.later.items (turn j - n j) (n j)) in
    ap in_order (after_same c.args.block (vec_capacity i.later) i.turns i.later.items following c.self.invariant c.args.self.now c.self.view_is c.requires.block c.requires.room
    (c.blocks-blocks.result + c.len.result) (omega (arith, n, c.len.ensures)) first high
    c.replace-turn.new.self c.push_reserved.new.self.items c.replace-turn.ensures.turns c.push_reserved.ensures.items)
    ∙ after_order c.args.block (vec_capacity i.later) i.turns i.later.items following c.self.invariant c.args.self.now c.self.view_is c.requires.block c.requires.room
    (c.blocks-blocks.result + c.len.result) (omega (arith, n, c.len.ensures)) first high

pub returns-clause-length : goal.returns-clause-length
returns-clause-length c =
    let i = c.self.inside in
    let left = get_or i.turns c.args.block 0 in
    let following = c.leave_gap.new.later.items in
    let n = c.blocks-blocks.ensures.blocks in
    let turn = c.replace-turn.ensures.turn in
    let first : left < length i.turns → following ≡ i.later.items = λ l. c.leave_gap.ensures.first (omega (arith, l, n, turn)) in
    let high : length i.turns ≤ left → following ≡ set i.later.items (left - length i.turns) (length i.turns) =
    λ h. c.leave_gap.ensures.gap (omega (arith, h, n, turn)) ∙ (λ j. set i.later.items (turn j - n j) (n j)) in
    ap (λ o. length (in_order o)) (after_same c.args.block (vec_capacity i.later) i.turns i.later.items following c.self.invariant c.args.self.now c.self.view_is c.requires.block c.requires.room
    (c.blocks-blocks.result + c.len.result) (omega (arith, n, c.len.ensures)) first high
    c.replace-turn.new.self c.push_reserved.new.self.items c.replace-turn.ensures.turns c.push_reserved.ensures.items)
    ∙ after_length c.args.block (vec_capacity i.later) i.turns i.later.items following c.self.invariant c.args.self.now c.self.view_is c.requires.block c.requires.room
    (c.blocks-blocks.result + c.len.result) (omega (arith, n, c.len.ensures)) first high

pub returns-clause-front : goal.returns-clause-front
returns-clause-front c =
    let i = c.self.inside in
    let left = get_or i.turns c.args.block 0 in
    let following = c.leave_gap.new.later.items in
    let n = c.blocks-blocks.ensures.blocks in
    let turn = c.replace-turn.ensures.turn in
    let first : left < length i.turns → following ≡ i.later.items = λ l. c.leave_gap.ensures.first (omega (arith, l, n, turn)) in
    let high : length i.turns ≤ left → following ≡ set i.later.items (left - length i.turns) (length i.turns) =
    λ h. c.leave_gap.ensures.gap (omega (arith, h, n, turn)) ∙ (λ j. set i.later.items (turn j - n j) (n j)) in
    subst (KeepsFront (length c.args.self.now.kept) c.args.self.now) (sym (after_same c.args.block (vec_capacity i.later) i.turns i.later.items following c.self.invariant c.args.self.now c.self.view_is c.requires.block c.requires.room
    (c.blocks-blocks.result + c.len.result) (omega (arith, n, c.len.ensures)) first high
    c.replace-turn.new.self c.push_reserved.new.self.items c.replace-turn.ensures.turns c.push_reserved.ensures.items))
    (after_front c.args.block (vec_capacity i.later) i.turns i.later.items following c.self.invariant c.args.self.now c.self.view_is c.requires.block c.requires.room
    (c.blocks-blocks.result + c.len.result) (omega (arith, n, c.len.ensures)) first high)
