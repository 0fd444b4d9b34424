use Rattle.std.proofs.Common.{◌≡◌, ◌<◌, ◌+◌, ◌++◌, ◌∷◌, [], suc, ℕ, List, length, take, map, slice_set, get_or, false, arith, ap, sym, subst, ◌∙◌}
use Rattle.std.proofs.Math.Seq.{take-suc, take-suc-set}
use Rattle.std.proofs.lemmas.List.{map-append, take_all, length-set}
use Rattle.journaled_store.specs.Steps.{loss_mark}
use Rattle.journaled_store.proofs.changes.marks_of.Goals as goal

pub loop-drive-preserved : goal.loop-drive-preserved
loop-drive-preserved c =
    let l = c.loop-drive in
    let lost = c.args.lost.now in
    let m = c.loss_mark.result in
    let next : suc l.drive ≡ l.drive + 1 = omega arith in
    let low : l.drive < length l.marks = omega (arith, c.loop-drive-test.true, l.invariant.long) in
    let inside : l.drive < length lost = omega (arith, c.loop-drive-test.true, c.told-lost) in
    record {
      long = length-set l.marks l.drive m ∙ l.invariant.long;
      marked = subst (λ n. take n (slice_set l.marks l.drive m) ≡ map loss_mark (take n lost)) next
          (take-suc-set l.marks l.drive m low ∙ ap (λ (xs : List ℕ). xs ++ m ∷ []) l.invariant.marked
          ∙ ap (λ b. map loss_mark (take l.drive lost) ++ b ∷ []) c.loss_mark.ensures
          ∙ sym (map-append loss_mark (take l.drive lost) (get_or lost l.drive false ∷ [])) ∙ ap (map loss_mark) (sym (take-suc lost l.drive false inside)));
    }

pub returns : goal.returns
returns c =
    let l = c.loop-drive in
    sym (take_all l.drive l.marks (omega (arith, c.loop-drive-test.false, l.invariant.long))) ∙ l.invariant.marked
    ∙ ap (map loss_mark) (take_all l.drive c.args.lost.now (omega (arith, c.loop-drive-test.false, c.told-lost)))
