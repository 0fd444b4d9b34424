-- A member's units are copied onto another extent, which takes its place: what the slots hold then.
use Rattle.std.proofs.Common.{◌≡◌, ◌≢◌, ℕ, ◌<◌, inl, inr, Option, Some, None, List, length, refl, sym, ◌∙◌, ap, subst}
use Rattle.std.specs.Prelude.{replicate}
use Rattle.std.proofs.lemmas.Option.{same_Some}
use Rattle.extent_groups.specs.Units.{plus, add, xor_total, put, others, or_else}
use Rattle.extent_groups.specs.Calls.{Fades}
use Rattle.extent_groups.proofs.Places.{same_or_not}
use Rattle.extent_groups.proofs.ExclusiveOr.{plus-self}
use Rattle.extent_groups.proofs.Totals.{Row, put_same, put_other, put_agrees, put_sized, total_same, total_split, total_sized}
use Rattle.extent_groups.proofs.RowWrites.{total_present, same_or_missing}
use Rattle.extent_groups.proofs.Fading.{RowFades, IsSoundRow, effective, faded, fade_effective, fade_sound}

-- a row whose members fade but for one, and that one's unit, if any, is its effective unit: the row stays sound, and each
-- effective unit that exists is what it was
pub swapped_row : (n m k : ℕ) (r s : Row) → k < m → ((j : ℕ) (u : List ℕ) → r j ≡ Some u → length u ≡ n) → IsSoundRow n m r
    → ((j : ℕ) → j ≢ k → Fades (r j) (s j)) → ((w : List ℕ) → s k ≡ Some w → effective n m r k ≡ Some w)
    → IsSoundRow n m s × ((j : ℕ) (v : List ℕ) → j < m → effective n m s j ≡ Some v → effective n m r j ≡ Some v)
swapped_row n m k r s low sized sound fades is = at_k (r k) (s k) refl refl where
  -- the member was there, or has nothing now: the whole row fades
  faded_row : Fades (r k) (s k) → IsSoundRow n m s × ((j : ℕ) (v : List ℕ) → j < m → effective n m s j ≡ Some v → effective n m r j ≡ Some v)
  faded_row f =
      let all : RowFades r s = λ j. elim (same_or_not j k) [ inl q ↦ subst (λ i. Fades (r i) (s i)) (sym q) f | inr ne ↦ fades j ne ] in
      (fade_sound n m r s sound all, λ j v below e. fade_effective n m j r s below (sized j) sound all v e)

  at_k : (a b : Option (List ℕ)) → r k ≡ a → s k ≡ b → IsSoundRow n m s × ((j : ℕ) (v : List ℕ) → j < m → effective n m s j ≡ Some v → effective n m r j ≡ Some v)
  at_k a None ra sb = faded_row (inr sb)
  at_k (Some u) (Some w) ra sb = faded_row (inl (sb ∙ sym (sym (ap (λ x. or_else x (others n m r k)) ra) ∙ is w sb) ∙ sym ra))
  at_k None (Some w) ra sb =
      let blank : Option (List ℕ) = Some (replicate n 0) in
      let reported : others n m r k ≡ Some w = sym (ap (λ x. or_else x (others n m r k)) ra) ∙ is w sb in
      let long : length w ≡ n = total_sized n m (put r k blank) (put_sized n k r sized) w reported in
      let whole : Row = put r k (Some w) in
      let mine : whole k ≡ Some w = put_same r k (Some w) in
      let theirs : (j : ℕ) → j ≢ k → whole j ≡ r j = λ j ne. put_other r k j (Some w) ne in
      let rest : others n m whole k ≡ Some w = total_same n m (put whole k blank) (put r k blank) (λ j _. put_agrees whole r k blank j (theirs j)) ∙ reported in
      let zero_sum : xor_total n m whole ≡ Some (plus w w) = total_split n m k whole low ∙ ap (λ a. add a (others n m whole k)) mine ∙ ap (add (Some w)) rest in
      let sound' : IsSoundRow n m whole = λ v e. sym (same_Some (plus w w) v (sym zero_sum ∙ e)) ∙ plus-self w ∙ ap (λ l. replicate {A = ℕ} l 0) long in
      let sized' : (j : ℕ) (u : List ℕ) → whole j ≡ Some u → length u ≡ n =
      λ j u e. elim (same_or_not j k) [
        | inl q ↦ ap length (sym (same_Some w u (sym mine ∙ ap whole (sym q) ∙ e))) ∙ long
        | inr ne ↦ sized j u (sym (theirs j ne) ∙ e)
      ] in
      let all : RowFades whole s = λ j. elim (same_or_not j k) [
        | inl q ↦ inl (ap s q ∙ sb ∙ sym mine ∙ ap whole (sym q))
        | inr ne ↦ subst (λ x. Fades x (s j)) (sym (theirs j ne)) (fades j ne)
      ] in
      let back : (j : ℕ) (v : List ℕ) → j < m → effective n m whole j ≡ Some v → effective n m r j ≡ Some v =
      λ j v below e. elim (same_or_not j k) [
        | inl q ↦
            (let at : effective n m whole k ≡ Some v = ap (effective n m whole) (sym q) ∙ e in
            let same : w ≡ v = same_Some w v (sym (ap (λ x. or_else x (others n m whole k)) mine) ∙ at) in
            ap (effective n m r) q ∙ is w sb ∙ ap (λ x. Some x) same)
        | inr ne ↦
            (let there : r j ≡ None → ⊥ = λ gone. total_present n m (put r k blank) w reported j below (put_other r k j blank ne ∙ gone) in
            same_or_missing (r j) there (others n m r j) (others n m whole j) ∙ ap (λ a. or_else a (others n m whole j)) (sym (theirs j ne)) ∙ e)
      ] in
      (fade_sound n m whole s sound' all, λ j v below e. back j v below (fade_effective n m j whole s below (sized' j) sound' all v e))

-- the same of two copies, of which one has a new place
pub swapped_pair : (a b a' b' : Option (List ℕ)) → ((u v : List ℕ) → a ≡ Some u → b ≡ Some v → u ≡ v) → Fades b b' → ((w : List ℕ) → a' ≡ Some w → or_else a b ≡ Some w)
    → ((u v : List ℕ) → a' ≡ Some u → b' ≡ Some v → u ≡ v) × ((v : List ℕ) → or_else a' b' ≡ Some v → or_else a b ≡ Some v)
swapped_pair a b a' b' sound fades is = (
  λ u v eu ev. copies a b sound u v (is u eu) (faded b b' v fades ev),
  λ v e. unit a b a' b' sound fades is v e,
) where
  copies : (a b : Option (List ℕ)) → ((u v : List ℕ) → a ≡ Some u → b ≡ Some v → u ≡ v) → (u v : List ℕ) → or_else a b ≡ Some u → b ≡ Some v → u ≡ v
  copies None b sound u v e ev = same_Some u v (sym e ∙ ev)
  copies (Some x) b sound u v e ev = sym (same_Some x u e) ∙ sound x v refl ev

  second : (a b : Option (List ℕ)) → ((u v : List ℕ) → a ≡ Some u → b ≡ Some v → u ≡ v) → (v : List ℕ) → b ≡ Some v → or_else a b ≡ Some v
  second None b sound v e = e
  second (Some x) b sound v e = ap (λ w. Some w) (sound x v refl e)

  unit : (a b a' b' : Option (List ℕ)) → ((u v : List ℕ) → a ≡ Some u → b ≡ Some v → u ≡ v) → Fades b b' → ((w : List ℕ) → a' ≡ Some w → or_else a b ≡ Some w)
      → (v : List ℕ) → or_else a' b' ≡ Some v → or_else a b ≡ Some v
  unit a b None b' sound fades is v e = second a b sound v (faded b b' v fades e)
  unit a b (Some w) b' sound fades is v e = is w refl ∙ e
