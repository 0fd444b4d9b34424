use Rattle.std.proofs.Common.{◌≡◌, ◌<◌, Some, length, slice_get, arith, rules, sym, ◌∙◌, ap}
use Rattle.std.proofs.lemmas.Option.{slice_get-get_or, slice_get_within, same_Some}
use Rattle.raid_images.proofs.Firsts.{none_next}
use Rattle.raid_images.proofs.choice.owner_of.Goals as goal

pub returns-then-is_sum-clause-some : goal.returns-then-is_sum-clause-some
returns-then-is_sum-clause-some c =
    slice_get-get_or c.args.sums.now c.loop-drive.drive _ c.loop-drive-test.true ∙ ap (λ o. Some o) (c.is_sum.ensures.0 c.if-is_sum.true)

pub loop-drive-preserved : goal.loop-drive-preserved
loop-drive-preserved c = none_next (λ k. slice_get c.args.sums.now k ≡ Some (Some c.args.sum.now)) c.loop-drive.drive c.loop-drive.invariant
    (λ there. absurd (search (rules, c.is_sum.ensures.1 (same_Some _ _ (sym (slice_get-get_or c.args.sums.now c.loop-drive.drive _ c.loop-drive-test.true) ∙ there)), c.if-is_sum.false)))

pub returns-clause-none : goal.returns-clause-none
returns-clause-none c = λ k there. c.loop-drive.invariant k (omega (arith, slice_get_within c.args.sums.now k _ there, c.loop-drive-test.false, c.loop-drive.auto.drive-end)) there
