use Rattle.std.proofs.Common.{◌≡◌, arith, refl, subst, Some, sym}
use Rattle.extent_groups.specs.declared.class.Class.TheVariants.{Mirrored}
use Rattle.migrator.specs.Ages.{IsOldestOf}
use Rattle.migrator.specs.Inside.{blocks_in}
use Rattle.migrator.specs.Slots.{IsMirrored, class_of_record}
use Rattle.migrator.proofs.Oldest.{none_passes, first_passes}
use Rattle.migrator.proofs.recency.first_mirrored.Goals as goal

pub returns-then-is_mirrored : goal.returns-then-is_mirrored
returns-then-is_mirrored g c =
    let turns = c.args.turns.now in
    let passes = IsMirrored c.args.groups.now (g.N.Newest.keys c.args.newest.now) in
    subst (λ b. IsOldestOf (blocks_in turns.blocks turns.kept) passes b) (sym c.at-number.ensures)
    (first_passes turns.blocks passes turns.kept c.loop-turn.turn c.loop-turn.invariant
    (omega (arith, c.loop-turn-test.true, c.len-turn-end.ensures.len)) (omega (arith, c.if-number-blocks.true, c.blocks-in-loop-turn.ensures.blocks, c.at-number.ensures))
    (subst passes c.at-number.ensures (subst (λ r. class_of_record c.args.groups.now r ≡ Some Mirrored) c.newest.ensures (c.if-is_mirrored.ensures.0 refl))))

pub returns : goal.returns
returns g c =
    none_passes c.args.turns.now.blocks (IsMirrored c.args.groups.now (g.N.Newest.keys c.args.newest.now)) c.args.turns.now.kept
    (λ k h. c.loop-turn.invariant k (omega (arith, h, c.loop-turn-test.false, c.len-turn-end.ensures.len)))
