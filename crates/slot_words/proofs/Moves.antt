-- A slot's word changes: it is claimed, or released.
use Rattle.std.proofs.Common.{◌≡◌, ℕ, ◌+◌, ◌*◌, ◌^◌, ◌<◌, ◌≤◌, ◌≢◌, ◌/◌, ◌%◌, List, [], ◌∷◌, ◌++◌, append-nil, length, set, get_or, get_or-set_same, get_or-set_other, length-set, sym, refl, ap, ◌∙◌, inr, ⊎_elim, subst, arith}
use mathlib.Core.Option.{some}
use mathlib.Core.Logic.{dite}
use native.Mathlib.Decide.{ℕ_discrete}
use lib.ListN.{get_elem?}
use Rattle.slot_words.specs.declared.view.Held.{Held}
use Rattle.slot_words.specs.declared.view.Kind.TheVariants.{Exchange, Store}
use Rattle.slot_words.specs.declared.view.Sight.{Sight}
use Rattle.slot_words.specs.declared.view.View.{View}
use Rattle.slot_words.specs.Places.{word_of}
use Rattle.slot_words.specs.ClaimRule.{sight_at, HoldsPair, steps, generation_at, IsTransition, IsShared, ClaimRule}
use Rattle.slot_words.proofs.Lists.{nowhere, alone}
use Rattle.slot_words.proofs.Views.{matches_set, matches_again, still_matches}
use Rattle.slot_words.proofs.Timed.{timed_next}
use Rattle.slot_words.proofs.Winning.{won_next, won_still}

-- a word stays low when a low number is written
stays_low : (ws : List ℕ) (i x : ℕ) → i < length ws → x ≤ 2 ^ 63 + 1 → ((j : ℕ) → get_or ws j 0 ≤ 2 ^ 63 + 1) → (j : ℕ) → get_or (set ws i x) j 0 ≤ 2 ^ 63 + 1
stays_low ws i x inside small low j = dite (ℕ_discrete j i)
    (λ (e : j ≡ i). subst (λ (m : ℕ). get_or (set ws i x) m 0 ≤ 2 ^ 63 + 1) (sym e) (subst (λ (m : ℕ). m ≤ 2 ^ 63 + 1) (sym (get_or-set_same ws i x 0 inside)) small))
    (λ (ne : j ≢ i). subst (λ (m : ℕ). m ≤ 2 ^ 63 + 1) (sym (get_or-set_other ws i j x 0 ne)) (low j))

-- two slots whose words are different are different
other_word : (a b : ℕ) → a ≢ b → word_of a ≢ word_of b
other_word a b ne e = ne (omega arith)

-- a free slot is claimed: one seat comes to have the pair, and the word becomes odd
pub claimed : (n : ℕ) (ws : List ℕ) (vs : List View) (id g : ℕ) (p : Held) (v w : View) → ClaimRule n ws vs → get_elem? vs id ≡ some v
    → w.pairs ≡ p ∷ [] → w.won ≡ v.won ++ p ∷ [] → w.steps ≡ v.steps ++ w.sight ∷ [] → w.sight ≡ sight_at Exchange (word_of p.slot) (2 * g) (2 * p.generation + 1) (steps vs + 1) → IsShared (set vs id w) → p.slot < n
    → get_or ws (word_of p.slot) 0 ≡ 2 * g → p.generation ≡ g + 1 → p.generation ≤ 2 ^ 62 → ClaimRule n (set ws (word_of p.slot) (2 * p.generation + 1)) (set vs id w)
claimed n ws vs id g p v w rule here has wins more sees shared inside free next small = record {
  wide = length-set ws (word_of p.slot) (2 * p.generation + 1) ∙ rule.wide;
  low = stays_low ws (word_of p.slot) (2 * p.generation + 1) within (omega arith) rule.low;
  current = λ s k q st. ⊎_elim
      (λ (h : (s ≡ id) × (get_elem? w.pairs k ≡ some q)).
      subst (λ (r : Held). get_or words (word_of r.slot) 0 ≡ 2 * r.generation + 1) (alone w.pairs k p q has h.1).1 (get_or-set_same ws (word_of p.slot) (2 * p.generation + 1) 0 within))
      (λ (h : (s ≢ id) × HoldsPair vs s k q).
      get_or-set_other ws (word_of p.slot) (word_of q.slot) (2 * p.generation + 1) 0 (other_word q.slot p.slot (apart s k q h.1)) ∙ rule.current s k q h.1)
      (matches_set (λ (u : View). u.pairs) vs id w s k q st);
  once = λ s k t l q r st su e. ⊎_elim
      (λ (h : (s ≡ id) × (get_elem? w.pairs k ≡ some q)). ⊎_elim
      (λ (i : (t ≡ id) × (get_elem? w.pairs l ≡ some r)). (h.0 ∙ sym i.0, (alone w.pairs k p q has h.1).0 ∙ sym (alone w.pairs l p r has i.1).0))
      (λ (i : (t ≢ id) × HoldsPair vs t l r). absurd (apart t l r i.1 (sym e ∙ sym (ap (λ (x : Held). x.slot) (alone w.pairs k p q has h.1).1))))
      (matches_set (λ (u : View). u.pairs) vs id w t l r su))
      (λ (h : (s ≢ id) × HoldsPair vs s k q). ⊎_elim
      (λ (i : (t ≡ id) × (get_elem? w.pairs l ≡ some r)). absurd (apart s k q h.1 (e ∙ sym (ap (λ (x : Held). x.slot) (alone w.pairs l p r has i.1).1))))
      (λ (i : (t ≢ id) × HoldsPair vs t l r). rule.once s k t l q r h.1 i.1 e)
      (matches_set (λ (u : View). u.pairs) vs id w t l r su))
      (matches_set (λ (u : View). u.pairs) vs id w s k q st);
  won = won_next n ws vs id p v w rule.won here wins within (let e : generation_at ws p.slot ≡ g = omega arith in omega arith);
  timed = timed_next ws words vs id v w rule.timed here more (ap (λ (s : Sight). s.time) sees)
      (subst (λ (s : Sight). s.found ≡ get_or ws s.place 0) (sym sees) (sym free))
      (subst (λ (s : Sight). IsTransition s.kind s.found s.left) (sym sees) (inr (even, omega arith)))
      (subst (λ (s : Sight). get_or words s.place 0 ≡ s.left) (sym sees) (get_or-set_same ws (word_of p.slot) (2 * p.generation + 1) 0 within))
      (subst (λ (s : Sight). (place : ℕ) → place ≢ s.place → get_or words place 0 ≡ get_or ws place 0) (sym sees) (λ place ne. get_or-set_other ws (word_of p.slot) place (2 * p.generation + 1) 0 ne));
  shared = shared;
}
  where
    words : List ℕ
    words = set ws (word_of p.slot) (2 * p.generation + 1)

    within : word_of p.slot < length ws
    within = let wide = rule.wide in omega arith

    even : (2 * g) % 2 ≡ 0
    even = omega arith

    apart : (s k : ℕ) (q : Held) → HoldsPair vs s k q → q.slot ≢ p.slot
    apart s k q st e = let odd = rule.current s k q st in
        let even : get_or ws (word_of q.slot) 0 ≡ 2 * g = subst (λ (x : ℕ). get_or ws (word_of x) 0 ≡ 2 * g) (sym e) free in
        let clash : 2 * q.generation + 1 ≡ 2 * g = sym odd ∙ even in omega arith

-- a held slot is released by the seat that has its pair: the word becomes even
pub freed : (n : ℕ) (ws : List ℕ) (vs : List View) (id : ℕ) (p : Held) (v w : View) → ClaimRule n ws vs → get_elem? vs id ≡ some v
    → v.pairs ≡ p ∷ [] → w.pairs ≡ [] → w.won ≡ v.won → w.steps ≡ v.steps ++ w.sight ∷ [] → w.sight ≡ sight_at Store (word_of p.slot) (2 * p.generation + 1) (2 * p.generation) (steps vs + 1) → IsShared (set vs id w) → p.slot < n
    → ClaimRule n (set ws (word_of p.slot) (2 * p.generation)) (set vs id w)
freed n ws vs id p v w rule here has none won more sees shared inside = record {
  wide = length-set ws (word_of p.slot) (2 * p.generation) ∙ rule.wide;
  low = stays_low ws (word_of p.slot) (2 * p.generation) within small rule.low;
  current = λ s k q st. let old = stood s k q st in
      get_or-set_other ws (word_of p.slot) (word_of q.slot) (2 * p.generation) 0 (other_word q.slot p.slot (λ e. old.0 (rule.once s k id 0 q p old.1 mine e).0)) ∙ rule.current s k q old.1;
  once = λ s k t l q r st su e. rule.once s k t l q r (stood s k q st).1 (stood t l r su).1 e;
  won = won_still n ws words vs (set vs id w) rule.won same_generation stays_above
      (matches_again (λ (u : View). u.won) vs id v w here won)
      (still_matches (λ (u : View). u.won) vs id v w [] here (won ∙ sym (append-nil v.won)));
  timed = timed_next ws words vs id v w rule.timed here more (ap (λ (s : Sight). s.time) sees)
      (subst (λ (s : Sight). s.found ≡ get_or ws s.place 0) (sym sees) (sym (rule.current id 0 p mine)))
      (subst (λ (s : Sight). IsTransition s.kind s.found s.left) (sym sees) (odd, refl))
      (subst (λ (s : Sight). get_or words s.place 0 ≡ s.left) (sym sees) (get_or-set_same ws (word_of p.slot) (2 * p.generation) 0 within))
      (subst (λ (s : Sight). (place : ℕ) → place ≢ s.place → get_or words place 0 ≡ get_or ws place 0) (sym sees) (λ place ne. get_or-set_other ws (word_of p.slot) place (2 * p.generation) 0 ne));
  shared = shared;
}
  where
    words : List ℕ
    words = set ws (word_of p.slot) (2 * p.generation)

    within : word_of p.slot < length ws
    within = let wide = rule.wide in omega arith

    odd : (2 * p.generation + 1) % 2 ≡ 1
    odd = omega arith

    mine : HoldsPair vs id 0 p
    mine = (v, here, ap (λ (l : List Held). get_elem? l 0) has)

    small : 2 * p.generation ≤ 2 ^ 63 + 1
    small = let is = rule.current id 0 p mine in let low = rule.low (word_of p.slot) in omega arith

    stood : (s k : ℕ) (q : Held) → HoldsPair (set vs id w) s k q → (s ≢ id) × HoldsPair vs s k q
    stood s k q st = ⊎_elim
        (λ (h : (s ≡ id) × (get_elem? w.pairs k ≡ some q)). absurd (nowhere w.pairs k q none h.1))
        (λ (h : (s ≢ id) × HoldsPair vs s k q). h)
        (matches_set (λ (u : View). u.pairs) vs id w s k q st)

    stays_above : (slot : ℕ) → 0 < get_or words (word_of slot) 0 → 0 < get_or ws (word_of slot) 0
    stays_above slot above = dite (ℕ_discrete slot p.slot)
        (λ (e : slot ≡ p.slot). subst (λ (x : ℕ). 0 < get_or ws (word_of x) 0) (sym e) (let is = rule.current id 0 p mine in omega arith))
        (λ (ne : slot ≢ p.slot). subst (λ (x : ℕ). 0 < x) (get_or-set_other ws (word_of p.slot) (word_of slot) (2 * p.generation) 0 (other_word slot p.slot ne)) above)

    same_generation : (slot : ℕ) → generation_at words slot ≡ generation_at ws slot
    same_generation slot = dite (ℕ_discrete slot p.slot)
        (λ (e : slot ≡ p.slot). subst (λ (x : ℕ). generation_at words x ≡ generation_at ws x) (sym e) here_too)
        (λ (ne : slot ≢ p.slot). ap (λ (x : ℕ). x / 2) (get_or-set_other ws (word_of p.slot) (word_of slot) (2 * p.generation) 0 (other_word slot p.slot ne)))
      where
        here_too : generation_at words p.slot ≡ generation_at ws p.slot
        here_too =
            let is = rule.current id 0 p mine in
            let put : get_or words (word_of p.slot) 0 ≡ 2 * p.generation = get_or-set_same ws (word_of p.slot) (2 * p.generation) 0 within in omega arith
