use Rattle.std.proofs.Common.{◌∙◌, ◌-◌, ap, arith, get_or, sym}
use Rattle.std.proofs.lemmas.List.{get_or_default}
use Rattle.migrator.proofs.Turned.{count_kept, first_gone, kept_first, kept_later}
use Rattle.migrator.proofs.turns.Turns.at.Goals as goal

pub index-requires : goal.index-requires
index-requires c =
    let i = c.self.inside in
    omega (arith, count_kept i.turns i.later.items c.args.self.now c.self.view_is, c.requires, c.blocks-blocks.ensures.blocks, c.if-turn-blocks.true)

pub returns-then-turn-blocks : goal.returns-then-turn-blocks
returns-then-turn-blocks c =
    let i = c.self.inside in
    let kept = count_kept i.turns i.later.items c.args.self.now c.self.view_is in
    let from = c.blocks-blocks.ensures.blocks in
    c.index.ensures
    ∙ get_or_default i.later.items (c.args.turn - c.blocks-blocks.result) _ 0 (omega (arith, kept, c.requires, from, c.if-turn-blocks.true))
    ∙ ap (λ n. get_or i.later.items (c.args.turn - n) 0) from
    ∙ sym (kept_later i.turns i.later.items c.args.turn (omega (arith, from, c.if-turn-blocks.true)))
    ∙ ap (λ o. get_or o.kept c.args.turn 0) c.self.view_is

pub returns-else-turn_of-turn : goal.returns-else-turn_of-turn
returns-else-turn_of-turn c =
    let i = c.self.inside in
    let from = c.blocks-blocks.ensures.blocks in
    from
    ∙ sym (first_gone i.turns c.args.turn (omega (arith, from, c.if-turn-blocks.false)) (λ e. c.if-turn_of-turn.false (c.turn_of.ensures ∙ e)))
    ∙ sym (kept_first i.turns i.later.items c.args.turn (omega (arith, from, c.if-turn-blocks.false)))
    ∙ ap (λ o. get_or o.kept c.args.turn 0) c.self.view_is
