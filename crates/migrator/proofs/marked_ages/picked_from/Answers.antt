use Rattle.std.proofs.Common.{ℕ, ◌<◌, ap, arith, length, subst, sym, Some}
use Rattle.migrator.specs.Ages.{IsMarked, IsOldest}
use Rattle.migrator.specs.Inside.{in_order}
use Rattle.migrator.proofs.Oldest.{first_passes, none_passes}
use Rattle.migrator.proofs.marked_ages.picked_from.Goals as goal

pub returns-then-is_picked : goal.returns-then-is_picked
returns-then-is_picked g c =
    let turns = c.args.turns.now in
    let kept = turns.kept in
    let P : ℕ → Type 0 = λ b. IsMarked c.args.marks.now b × g.P.PicksBlocks.picked c.args.picks.now b in
    let marked = c.is_marked_at.ensures.0 c.if-is_marked_at.true in
    let picked = subst (g.P.PicksBlocks.picked c.args.picks.now) c.at-block.ensures (c.is_picked.ensures.0 c.if-is_picked.true) in
    let within : c.loop-turn.turn < length kept = omega (arith, c.loop-turn-test.true, c.len-turn-end.ensures.len) in
    subst (λ b. IsOldest (in_order turns) P (Some b)) (sym c.at-block.ensures)
    (first_passes turns.blocks P kept c.loop-turn.turn c.loop-turn.invariant within marked.0 (marked.1, picked))

pub returns : goal.returns
returns g c =
    let turns = c.args.turns.now in
    none_passes turns.blocks (λ b. IsMarked c.args.marks.now b × g.P.PicksBlocks.picked c.args.picks.now b) turns.kept
    (λ k low. c.loop-turn.invariant k (omega (arith, low, c.loop-turn-test.false, c.len-turn-end.ensures.len)))
