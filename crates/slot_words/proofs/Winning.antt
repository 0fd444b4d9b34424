-- The pairs ever won, where generations stay, and where one is won.
use Rattle.std.proofs.Common.{◌≡◌, ℕ, ◌+◌, ◌*◌, ◌/◌, ◌<◌, ◌≤◌, ◌≢◌, ◌⊎◌, List, [], ◌∷◌, ◌++◌, length, set, get_or, get_or-set_same, get_or-set_other, sym, refl, ap, ◌∙◌, inl, inr, ⊎_elim, subst, arith}
use Rattle.atomic_table.proofs.Lists.{set_here, at_last}
use mathlib.Core.Option.{some}
use mathlib.Core.Logic.{dite}
use native.Mathlib.Decide.{ℕ_discrete}
use lib.ListN.{get_elem?}
use Rattle.slot_words.specs.declared.view.Held.{Held}
use Rattle.slot_words.specs.declared.view.View.{View}
use Rattle.slot_words.specs.Places.{word_of}
use Rattle.slot_words.specs.ClaimRule.{held_pair, Won, generation_at, IsWon}
use Rattle.slot_words.proofs.Lists.{at_inside, at_append, alone}
use Rattle.slot_words.proofs.Views.{matches_set, still_matches}

-- no generation changes, and each pair of the new views is in the old ones, by a relation that is one to one, and none is lost
pub won_moved : (T : ℕ → ℕ → ℕ → ℕ → Type 0) (n : ℕ) (ws us : List ℕ) (vs xs : List View) → IsWon n ws vs → ((slot : ℕ) → generation_at us slot ≡ generation_at ws slot)
    → ((slot : ℕ) → 0 < get_or us (word_of slot) 0 → 0 < get_or ws (word_of slot) 0)
    → ((s k : ℕ) (p : Held) → Won xs s k p → (a : ℕ) × (b : ℕ) × T s k a b × Won vs a b p)
    → ((s k t l a b : ℕ) → T s k a b → T t l a b → (s ≡ t) × (k ≡ l))
    → ((s k : ℕ) (p : Held) → Won vs s k p → (a : ℕ) × (b : ℕ) × Won xs a b p) → IsWon n us xs
won_moved T n ws us vs xs won same rose from single to = record {
  begun = λ slot small above.
      let t = won.begun slot small (rose slot above) in
      let st = to t.0 t.1 (held_pair slot (generation_at ws slot)) t.2 in
      (st.0, st.1, subst (λ (g : ℕ). Won xs st.0 st.1 (held_pair slot g)) (sym (same slot)) st.2);
  counted = λ s k p st. let f = from s k p st in won.counted f.0 f.1 p f.3;
  reached = λ s k p st. let f = from s k p st in subst (λ (g : ℕ). p.generation ≤ g) (sym (same p.slot)) (won.reached f.0 f.1 p f.3);
  single = λ s k t l p q st su e d.
      let f = from s k p st in
      let g = from t l q su in
      let is = won.single f.0 f.1 g.0 g.1 p q f.3 g.3 e d in
      single s k t l g.0 g.1 (subst (λ (a : ℕ). T s k a g.1) is.0 (subst (λ (b : ℕ). T s k f.0 b) is.1 f.2)) g.2;
}

-- no generation changes, and each pair is where it was
pub won_still : (n : ℕ) (ws us : List ℕ) (vs xs : List View) → IsWon n ws vs → ((slot : ℕ) → generation_at us slot ≡ generation_at ws slot)
    → ((slot : ℕ) → 0 < get_or us (word_of slot) 0 → 0 < get_or ws (word_of slot) 0)
    → ((s k : ℕ) (p : Held) → Won xs s k p → Won vs s k p) → ((s k : ℕ) (p : Held) → Won vs s k p → Won xs s k p) → IsWon n us xs
won_still n ws us vs xs won same rose from to = won_moved (λ s k a b. (s ≡ a) × (k ≡ b)) n ws us vs xs won same rose
    (λ s k p st. (s, k, (refl, refl), from s k p st))
    (λ s k t l a b i j. (i.0 ∙ sym j.0, i.1 ∙ sym j.1))
    (λ s k p st. (s, k, to s k p st))

-- a seat wins the generation after the word's
pub won_next : (n : ℕ) (ws : List ℕ) (vs : List View) (id : ℕ) (p : Held) (v w : View) → IsWon n ws vs → get_elem? vs id ≡ some v → w.won ≡ v.won ++ p ∷ []
    → word_of p.slot < length ws → p.generation ≡ generation_at ws p.slot + 1 → IsWon n (set ws (word_of p.slot) (2 * p.generation + 1)) (set vs id w)
won_next n ws vs id p v w won here is inside next = record {
  begun = λ slot small above. dite (ℕ_discrete slot p.slot)
      (λ (e : slot ≡ p.slot). (
        id,
        length v.won,
        (
          w,
          set_here vs id w (at_inside vs id v here),
          subst (λ (l : List Held). get_elem? l (length v.won) ≡ some (held_pair slot (generation_at us slot))) (sym is)
              (at_last v.won p (length v.won) refl ∙ ap (λ (q : Held). some q) (pair slot e)),
        ),
      ))
      (λ (ne : slot ≢ p.slot).
      let t = won.begun slot small (subst (λ (x : ℕ). 0 < x) (stays slot ne) above) in (
        t.0,
        t.1,
        still_matches (λ (u : View). u.won) vs id v w (p ∷ []) here is t.0 t.1 (held_pair slot (generation_at us slot))
            (subst (λ (g : ℕ). Won vs t.0 t.1 (held_pair slot g)) (sym (elsewhere slot ne)) t.2),
      ));
  counted = λ s k q st. ⊎_elim
      (λ (old : Won vs s k q). won.counted s k q old)
      (λ (new : (s ≡ id) × (k ≡ length v.won) × (p ≡ q)). subst (λ (r : Held). 0 < r.generation) new.2 (omega arith))
      (cases s k q st);
  reached = λ s k q st. ⊎_elim
      (λ (old : Won vs s k q). let low = won.reached s k q old in let up = rises q.slot in omega arith)
      (λ (new : (s ≡ id) × (k ≡ length v.won) × (p ≡ q)). subst (λ (r : Held). r.generation ≤ generation_at us r.slot) new.2 (let e = reads in omega arith))
      (cases s k q st);
  single = λ s k t l q r st su e d. ⊎_elim
      (λ (old : Won vs s k q). ⊎_elim
      (λ (ancient : Won vs t l r). won.single s k t l q r old ancient e d)
      (λ (new : (t ≡ id) × (l ≡ length v.won) × (p ≡ r)). absurd (fresh s k q old (e ∙ slot_of r new.2) (d ∙ generation_of r new.2)))
      (cases t l r su))
      (λ (new : (s ≡ id) × (k ≡ length v.won) × (p ≡ q)). ⊎_elim
      (λ (old : Won vs t l r). absurd (fresh t l r old (sym e ∙ slot_of q new.2) (sym d ∙ generation_of q new.2)))
      (λ (also : (t ≡ id) × (l ≡ length v.won) × (p ≡ r)). (new.0 ∙ sym also.0, new.1 ∙ sym also.1))
      (cases t l r su))
      (cases s k q st);
}
  where
    us : List ℕ
    us = set ws (word_of p.slot) (2 * p.generation + 1)

    slot_of : (q : Held) → p ≡ q → q.slot ≡ p.slot
    slot_of q e = sym (ap (λ (x : Held). x.slot) e)

    generation_of : (q : Held) → p ≡ q → q.generation ≡ p.generation
    generation_of q e = sym (ap (λ (x : Held). x.generation) e)

    reads : generation_at us p.slot ≡ p.generation
    reads = let put : get_or us (word_of p.slot) 0 ≡ 2 * p.generation + 1 = get_or-set_same ws (word_of p.slot) (2 * p.generation + 1) 0 inside in omega arith

    stays : (slot : ℕ) → slot ≢ p.slot → get_or us (word_of slot) 0 ≡ get_or ws (word_of slot) 0
    stays slot ne = get_or-set_other ws (word_of p.slot) (word_of slot) (2 * p.generation + 1) 0 (λ e. ne (omega arith))

    elsewhere : (slot : ℕ) → slot ≢ p.slot → generation_at us slot ≡ generation_at ws slot
    elsewhere slot ne = ap (λ (x : ℕ). x / 2) (stays slot ne)

    rises : (slot : ℕ) → generation_at ws slot ≤ generation_at us slot
    rises slot = dite (ℕ_discrete slot p.slot)
        (λ (e : slot ≡ p.slot). subst (λ (x : ℕ). generation_at ws x ≤ generation_at us x) (sym e) (let r = reads in omega arith))
        (λ (ne : slot ≢ p.slot). let e = elsewhere slot ne in omega arith)

    pair : (slot : ℕ) → slot ≡ p.slot → p ≡ held_pair slot (generation_at us slot)
    pair slot e = let g : p.generation ≡ generation_at us slot = sym reads ∙ ap (generation_at us) (sym e) in λ i. held_pair (sym e i) (g i)

    cases : (s k : ℕ) (q : Held) → Won (set vs id w) s k q → Won vs s k q ⊎ ((s ≡ id) × (k ≡ length v.won) × (p ≡ q))
    cases s k q st = ⊎_elim
        (λ (h : (s ≡ id) × (get_elem? w.won k ≡ some q)). ⊎_elim
        (λ (i : (k < length v.won) × (get_elem? v.won k ≡ some q)). inl (subst (λ (x : ℕ). Won vs x k q) (sym h.0) (v, here, i.1)))
        (λ (i : (j : ℕ) × (k ≡ length v.won + j) × (get_elem? (p ∷ []) j ≡ some q)).
        let only = alone (p ∷ []) i.0 p q refl i.2 in let first = only.0 in let far = i.1 in inr (h.0, (omega arith), only.1))
        (at_append v.won (p ∷ []) k q (subst (λ (l : List Held). get_elem? l k ≡ some q) is h.1)))
        (λ (h : (s ≢ id) × Won vs s k q). inl h.1)
        (matches_set (λ (u : View). u.won) vs id w s k q st)

    fresh : (s k : ℕ) (q : Held) → Won vs s k q → q.slot ≡ p.slot → q.generation ≡ p.generation → ⊥
    fresh s k q old e d = let low : q.generation ≤ generation_at ws p.slot = subst (λ (x : ℕ). q.generation ≤ generation_at ws x) e (won.reached s k q old) in omega arith
