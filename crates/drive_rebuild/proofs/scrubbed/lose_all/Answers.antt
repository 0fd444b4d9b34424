use Rattle.std.proofs.Common.{◌≡◌, ◌∙◌, ◌<◌, inl, inr, Some, length, slice_get, slice_set, true, refl, sym, ap, subst, arith}
use Rattle.std.proofs.lemmas.List.{length-set}
use Rattle.std.proofs.lemmas.Option.{same_Some, slice_get-get_or, slice_get_within}
use Rattle.extents.specs.Condition.{Held}
use Rattle.extent_groups.proofs.Places.{same_or_not, get-set_same, get-set_other}
use Rattle.unit_store.specs.Memory.{held_lost}
use Rattle.vault.specs.Images.{is_lost}
use Rattle.drive_rebuild.proofs.scrubbed.lose_all.Goals as goal

pub loop-drive-init : goal.loop-drive-init
loop-drive-init c = record { many = refl; kept = λ d alive. refl; gone = λ d m low. absurd (omega (arith, low)) }

pub loop-drive-preserved : goal.loop-drive-preserved
loop-drive-preserved c =
    let n = c.loop-drive.drive in
    let caches = c.loop-drive.caches in
    let now = c.lose_if.new.cache in
    let inv = c.loop-drive.invariant in
    let low : n < length caches = (let many = inv.many in omega (arith, c.loop-drive-test.true, many)) in
    let at = slice_get-get_or caches n c.index-caches-drive.result low in
    record {
      many = length-set caches n now ∙ inv.many;
      kept = λ d alive. elim (same_or_not d n) [
        | inl here ↦
            ap (λ k. slice_get (slice_set caches n now) k) here ∙ get-set_same caches n now low
            ∙ ap (λ (m : Held). Some m) (c.lose_if.ensures.kept (c.is_lost.ensures ∙ ap (λ k. is_lost c.args.lost.now k) (sym here) ∙ alive))
            ∙ sym at ∙ ap (λ k. slice_get caches k) (sym here) ∙ inv.kept d alive
        | inr ne ↦ get-set_other caches n d now ne ∙ inv.kept d alive
      ];
      gone = λ d m below e gone. elim (same_or_not d n) [
        | inl here ↦
            subst (λ (h : Held). held_lost h ≡ true) (same_Some now m (sym (get-set_same caches n now low) ∙ ap (λ k. slice_get (slice_set caches n now) k) (sym here) ∙ e))
            (c.lose_if.ensures.lost (c.is_lost.ensures ∙ ap (λ k. is_lost c.args.lost.now k) (sym here) ∙ gone))
        | inr ne ↦ inv.gone d m (omega (arith, below, ne)) (sym (get-set_other caches n d now ne) ∙ e) gone
      ];
    }

pub returns : goal.returns
returns c = record {
  many = c.loop-drive.invariant.many;
  kept = c.loop-drive.invariant.kept;
  gone = λ d m e gone.
      c.loop-drive.invariant.gone d m
      (let low = slice_get_within c.loop-drive.caches d m e in let many = c.loop-drive.invariant.many in omega (arith, low, many, c.loop-drive-test.false)) e gone;
}
