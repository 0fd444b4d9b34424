-- Where pairs are, after one seat's view changed, after a seat came, and after two seats became one.
use Rattle.std.proofs.Common.{◌≡◌, ℕ, ◌+◌, ◌<◌, ◌≢◌, ◌⊎◌, List, [], ◌∷◌, ◌++◌, length, set, sym, refl, ap, ◌∙◌, inl, inr, ⊎_elim, subst, arith}
use Rattle.atomic_table.proofs.Lists.{at_set, set_here, set_else, at_longer}
use mathlib.Core.Option.{some, some-injective}
use mathlib.Core.Logic.{dite}
use native.Mathlib.Decide.{ℕ_discrete}
use lib.ListN.{get_elem?}
use Rattle.slot_words.specs.declared.view.Held.{Held}
use Rattle.slot_words.specs.declared.view.View.{View}
use Rattle.slot_words.specs.ClaimRule.{RepresentsIn}
use Rattle.slot_words.proofs.Lists.{at_inside, at_append, at_following, nowhere, alone}

-- where a pair was before a join: one of a seat that isn't joined where it is; one of the joined seat where it is, or, from
-- place `long` on, `long` places lower in the other seat
abbrev pub Glued : ℕ → ℕ → ℕ → ℕ → ℕ → ℕ → ℕ → Type 0
Glued id other long s k a b = ((s ≢ id) × (s ≢ other) × (s ≡ a) × (k ≡ b)) ⊎ (((s ≡ id) × (k < long) × (a ≡ id) × (k ≡ b)) ⊎ ((s ≡ id) × (a ≡ other) × (k ≡ long + b)))

pub glued_once : (id other long s k t l a b : ℕ) → other ≢ id → Glued id other long s k a b → Glued id other long t l a b → (s ≡ t) × (k ≡ l)
glued_once id other long s k t l a b differ i j = grind arith

module _ (part : View → List Held) where
  -- a pair is in the changed view, or where it was
  pub matches_set : (vs : List View) (id : ℕ) (w : View) (s k : ℕ) (p : Held) → RepresentsIn part (set vs id w) s k p
      → ((s ≡ id) × (get_elem? (part w) k ≡ some p)) ⊎ ((s ≢ id) × RepresentsIn part vs s k p)
  matches_set vs id w s k p st = ⊎_elim
      (λ (h : (s ≡ id) × (w ≡ st.0)). inl (h.0, subst (λ (v : View). get_elem? (part v) k ≡ some p) (sym h.1) st.2))
      (λ (h : (s ≢ id) × (get_elem? vs s ≡ some st.0)). inr (h.0, (st.0, h.1, st.2)))
      (at_set vs id s w st.0 st.1)

  -- where the changed view has the same pairs, each was where it is
  pub matches_again : (vs : List View) (id : ℕ) (v w : View) → get_elem? vs id ≡ some v → part w ≡ part v → (s k : ℕ) (p : Held) → RepresentsIn part (set vs id w) s k p → RepresentsIn part vs s k p
  matches_again vs id v w here same s k p st = ⊎_elim
      (λ (h : (s ≡ id) × (get_elem? (part w) k ≡ some p)).
      subst (λ (i : ℕ). RepresentsIn part vs i k p) (sym h.0) (v, here, subst (λ (l : List Held). get_elem? l k ≡ some p) same h.1))
      (λ (h : (s ≢ id) × RepresentsIn part vs s k p). h.1)
      (matches_set vs id w s k p st)

  -- where the changed view begins with its pairs, each pair is where it was
  pub still_matches : (vs : List View) (id : ℕ) (v w : View) (more : List Held) → get_elem? vs id ≡ some v → part w ≡ part v ++ more
      → (s k : ℕ) (p : Held) → RepresentsIn part vs s k p → RepresentsIn part (set vs id w) s k p
  still_matches vs id v w more here is s k p st = dite (ℕ_discrete s id)
      (λ (e : s ≡ id). (
        w,
        ap (get_elem? (set vs id w)) e ∙ set_here vs id w (at_inside vs id v here),
        subst (λ (l : List Held). get_elem? l k ≡ some p) (sym is)
            (at_longer (part v) more k p (subst (λ (y : View). get_elem? (part y) k ≡ some p) (some-injective st.0 v (sym st.1 ∙ ap (get_elem? vs) e ∙ here)) st.2)),
      ))
      (λ (ne : s ≢ id). (st.0, set_else vs id s w ne ∙ st.1, st.2))

  -- a seat without pairs comes
  pub matches_before : (vs : List View) (u : View) → part u ≡ [] → (s k : ℕ) (p : Held) → RepresentsIn part (vs ++ u ∷ []) s k p → RepresentsIn part vs s k p
  matches_before vs u none s k p st = ⊎_elim
      (λ (h : (s < length vs) × (get_elem? vs s ≡ some st.0)). (st.0, h.1, st.2))
      (λ (h : (j : ℕ) × (s ≡ length vs + j) × (get_elem? (u ∷ []) j ≡ some st.0)).
      absurd (nowhere (part u) k p none (subst (λ (v : View). get_elem? (part v) k ≡ some p) (sym (alone (u ∷ []) h.0 u st.0 refl h.2).1) st.2)))
      (at_append vs (u ∷ []) s st.0 st.1)

  pub matches_after : (vs : List View) (u : View) (s k : ℕ) (p : Held) → RepresentsIn part vs s k p → RepresentsIn part (vs ++ u ∷ []) s k p
  matches_after vs u s k p st = (st.0, at_longer vs (u ∷ []) s st.0 st.1, st.2)

  -- two seats become one
  module _ (vs : List View) (id other : ℕ) (v w both spent : View) (here : get_elem? vs id ≡ some v) (differ : other ≢ id) (there : get_elem? vs other ≡ some w)
      (sum : part both ≡ part v ++ part w) (none : part spent ≡ []) where
    pub stood_apart : (s k : ℕ) (p : Held) → RepresentsIn part (set (set vs id both) other spent) s k p
        → (a : ℕ) × (b : ℕ) × Glued id other (length (part v)) s k a b × RepresentsIn part vs a b p
    stood_apart s k p st = ⊎_elim
        (λ (h : (s ≡ other) × (get_elem? (part spent) k ≡ some p)). absurd (nowhere (part spent) k p none h.1))
        (λ (h : (s ≢ other) × RepresentsIn part (set vs id both) s k p). ⊎_elim
        (λ (i : (s ≡ id) × (get_elem? (part both) k ≡ some p)). ⊎_elim
        (λ (j : (k < length (part v)) × (get_elem? (part v) k ≡ some p)).
        (id, k, inr (inl (i.0, j.0, refl, refl)), (v, here, j.1)))
        (λ (j : (m : ℕ) × (k ≡ length (part v) + m) × (get_elem? (part w) m ≡ some p)).
        (other, j.0, inr (inr (i.0, refl, j.1)), (w, there, j.2)))
        (at_append (part v) (part w) k p (subst (λ (l : List Held). get_elem? l k ≡ some p) sum i.1)))
        (λ (i : (s ≢ id) × RepresentsIn part vs s k p). (s, k, inl (i.0, h.0, refl, refl), i.1))
        (matches_set vs id both s k p h.1))
        (matches_set (set vs id both) other spent s k p st)

    pub matches_together : (s k : ℕ) (p : Held) → RepresentsIn part vs s k p → (a : ℕ) × (b : ℕ) × RepresentsIn part (set (set vs id both) other spent) a b p
    matches_together s k p st = dite (ℕ_discrete s id)
        (λ (e : s ≡ id). (
          id,
          k,
          (
            both,
            now,
            subst (λ (l : List Held). get_elem? l k ≡ some p) (sym sum)
                (at_longer (part v) (part w) k p (subst (λ (y : View). get_elem? (part y) k ≡ some p) (some-injective st.0 v (sym st.1 ∙ ap (get_elem? vs) e ∙ here)) st.2)),
          ),
        ))
        (λ (ne : s ≢ id). dite (ℕ_discrete s other)
        (λ (e : s ≡ other). (
          id,
          length (part v) + k,
          (
            both,
            now,
            subst (λ (l : List Held). get_elem? l (length (part v) + k) ≡ some p) (sym sum)
                (at_following (part v) (part w) k p (subst (λ (y : View). get_elem? (part y) k ≡ some p) (some-injective st.0 w (sym st.1 ∙ ap (get_elem? vs) e ∙ there)) st.2)),
          ),
        ))
        (λ (no : s ≢ other). (s, k, (st.0, set_else (set vs id both) other s spent no ∙ set_else vs id s both ne ∙ st.1, st.2))))
      where
        now : get_elem? (set (set vs id both) other spent) id ≡ some both
        now = set_else (set vs id both) other id spent (λ e. differ (sym e)) ∙ set_here vs id both (at_inside vs id v here)
