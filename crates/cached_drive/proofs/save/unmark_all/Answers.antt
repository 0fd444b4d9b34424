use Rattle.std.proofs.Common.{◌≡◌, inl, inr, suc, ◌+◌, arith, take, sym, ◌∙◌, ap, subst}
use Rattle.std.specs.Prelude.{Contains, slice_index_or}
use Rattle.std.proofs.Math.Seq.{take-suc}
use Rattle.std.proofs.lemmas.List.{take_all}
use Rattle.std.proofs.lemmas.List.Elements.{Contains-push_cases}
use Rattle.cached_drive.specs.Saving.{IsMarked}
use Rattle.cached_drive.proofs.save.unmark_all.Goals as goal

pub loop-at-preserved : goal.loop-at-preserved
loop-at-preserved c a mark =
    let l = c.loop-at in
    let dirty = c.args.dirty.now in
    let at = slice_index_or dirty l.at-index 0 in
    let next : l.at-index + 1 ≡ suc l.at-index = omega arith in
    let before = l.invariant a (c.unmark.ensures.rest a mark) in (
      before.0,
      λ has. elim (Contains-push_cases (take l.at-index dirty) at a (subst (λ xs. Contains xs a) (ap (λ n. take n dirty) next ∙ take-suc dirty l.at-index 0 c.loop-at-test.true) has)) [
        | inl earlier ↦ before.1 earlier
        | inr is ↦ c.unmark.ensures.unmarked (subst (IsMarked c.unmark.new.marks.items) (sym is) mark)
      ],
    )

pub returns : goal.returns
returns c a mark =
    let l = c.loop-at in
    let dirty = c.args.dirty.now in
    let one = l.invariant a mark in
    let end = c.loop-at-test.false in
    one.1 (subst (λ xs. Contains xs a) (sym (take_all l.at-index dirty (omega (arith, end)))) one.0)
