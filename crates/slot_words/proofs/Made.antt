-- Which steps seats made, after one seat made one more, after its view changed otherwise, after a seat came, and after two became one.
use Rattle.std.proofs.Common.{◌≡◌, ℕ, ◌<◌, ◌≢◌, ◌⊎◌, List, [], ◌∷◌, ◌++◌, length, set, Contains, sym, refl, ap, ◌∙◌, inl, inr, ⊎_elim, subst, arith}
use Rattle.std.proofs.lemmas.List.Elements.{Contains-append_left, Contains-append_right, Contains-append_cases, Contains-push, Contains-push_cases}
use Rattle.atomic_table.proofs.Lists.{at_set, set_here, set_else, at_longer, at_snoc, at_last}
use mathlib.Core.Option.{some, some-injective}
use mathlib.Core.Logic.{dite}
use native.Mathlib.Decide.{ℕ_discrete}
use lib.ListN.{get_elem?}
use Rattle.slot_words.specs.declared.view.Sight.{Sight}
use Rattle.slot_words.specs.declared.view.View.{View}
use Rattle.slot_words.specs.ClaimRule.{MadeBy}
use Rattle.slot_words.proofs.Lists.{at_inside}

-- an empty list contains nothing
nothing : (l : List Sight) (x : Sight) → l ≡ [] → Contains l x → ⊥
nothing l x e has = let h : Contains [] x = subst (λ (m : List Sight). Contains m x) e has in let k : h.0 < 0 = h.1 in omega arith

-- the view at this place is this one
that : (vs : List View) (s id : ℕ) (x v : View) → get_elem? vs s ≡ some x → get_elem? vs id ≡ some v → s ≡ id → x ≡ v
that vs s id x v at here e = some-injective x v (sym at ∙ ap (get_elem? vs) e ∙ here)

-- a seat's view changes
module _ (vs : List View) (id : ℕ) (v w : View) (here : get_elem? vs id ≡ some v) where
  -- what it and the others made is still made
  pub made_on : ((s : Sight) → Contains v.steps s → Contains w.steps s) → (s : Sight) → MadeBy vs s → MadeBy (set vs id w) s
  made_on keeps s t = dite (ℕ_discrete t.0 id)
      (λ (e : t.0 ≡ id). (
        id,
        w,
        set_here vs id w (at_inside vs id v here),
        keeps s (subst (λ (y : View). Contains y.steps s) (that vs t.0 id t.1 v t.2 here e) t.3),
      ))
      (λ (ne : t.0 ≢ id). (t.0, t.1, set_else vs id t.0 w ne ∙ t.2, t.3))

  -- what is made now, it makes, or was made
  pub made_of : (s : Sight) → MadeBy (set vs id w) s → Contains w.steps s ⊎ MadeBy vs s
  made_of s t = ⊎_elim
      (λ (h : (t.0 ≡ id) × (w ≡ t.1)). inl (subst (λ (y : View). Contains y.steps s) (sym h.1) t.3))
      (λ (h : (t.0 ≢ id) × (get_elem? vs t.0 ≡ some t.1)). inr (t.0, t.1, h.1, t.3))
      (at_set vs id t.0 w t.1 t.2)

  -- it made one step more
  module _ (e : Sight) (more : w.steps ≡ v.steps ++ e ∷ []) where
    pub next_to : (s : Sight) → MadeBy vs s → MadeBy (set vs id w) s
    next_to = made_on (λ s has. subst (λ (l : List Sight). Contains l s) (sym more) (Contains-append_left v.steps (e ∷ []) s has))

    pub next_it : MadeBy (set vs id w) e
    next_it = (id, w, set_here vs id w (at_inside vs id v here), subst (λ (l : List Sight). Contains l e) (sym more) (Contains-push v.steps e))

    pub next_from : (s : Sight) → MadeBy (set vs id w) s → MadeBy vs s ⊎ (e ≡ s)
    next_from s t = ⊎_elim
        (λ (own : Contains w.steps s). ⊎_elim
        (λ (old : Contains v.steps s). inl (id, v, here, old))
        (λ (new : e ≡ s). inr new)
        (Contains-push_cases v.steps e s (subst (λ (l : List Sight). Contains l s) more own)))
        (λ (old : MadeBy vs s). inl old)
        (made_of s t)

  -- it made no step more
  module _ (same : w.steps ≡ v.steps) where
    pub same_to : (s : Sight) → MadeBy vs s → MadeBy (set vs id w) s
    same_to = made_on (λ s has. subst (λ (l : List Sight). Contains l s) (sym same) has)

    pub same_from : (s : Sight) → MadeBy (set vs id w) s → MadeBy vs s
    same_from s t = ⊎_elim
        (λ (own : Contains w.steps s). (id, v, here, subst (λ (l : List Sight). Contains l s) same own))
        (λ (old : MadeBy vs s). old)
        (made_of s t)

  -- a new seat remembers its steps, in its place
  module _ (new : View) (none : w.steps ≡ []) (moved : new.steps ≡ v.steps) where
    pub parts_to : (s : Sight) → MadeBy vs s → MadeBy (set vs id w ++ new ∷ []) s
    parts_to s t = dite (ℕ_discrete t.0 id)
        (λ (e : t.0 ≡ id). (
          length (set vs id w),
          new,
          at_last (set vs id w) new (length (set vs id w)) refl,
          subst (λ (l : List Sight). Contains l s) (sym moved) (subst (λ (y : View). Contains y.steps s) (that vs t.0 id t.1 v t.2 here e) t.3),
        ))
        (λ (ne : t.0 ≢ id). (t.0, t.1, at_longer (set vs id w) (new ∷ []) t.0 t.1 (set_else vs id t.0 w ne ∙ t.2), t.3))

    pub parts_from : (s : Sight) → MadeBy (set vs id w ++ new ∷ []) s → MadeBy vs s
    parts_from s t = ⊎_elim
        (λ (old : get_elem? (set vs id w) t.0 ≡ some t.1). ⊎_elim
        (λ (own : Contains w.steps s). absurd (nothing w.steps s none own))
        (λ (was : MadeBy vs s). was)
        (made_of s (t.0, t.1, old, t.3)))
        (λ (last : new ≡ t.1). (id, v, here, subst (λ (l : List Sight). Contains l s) moved (subst (λ (y : View). Contains y.steps s) (sym last) t.3)))
        (at_snoc (set vs id w) new t.1 t.0 t.2)

-- a seat comes that made no step
module _ (vs : List View) (w : View) (none : w.steps ≡ []) where
  pub more_to : (s : Sight) → MadeBy vs s → MadeBy (vs ++ w ∷ []) s
  more_to s t = (t.0, t.1, at_longer vs (w ∷ []) t.0 t.1 t.2, t.3)

  pub more_from : (s : Sight) → MadeBy (vs ++ w ∷ []) s → MadeBy vs s
  more_from s t = ⊎_elim
      (λ (old : get_elem? vs t.0 ≡ some t.1). (t.0, t.1, old, t.3))
      (λ (new : w ≡ t.1). absurd (nothing w.steps s none (subst (λ (y : View). Contains y.steps s) (sym new) t.3)))
      (at_snoc vs w t.1 t.0 t.2)

-- two seats become one
module _ (vs : List View) (id other : ℕ) (v w both spent : View) (here : get_elem? vs id ≡ some v) (differ : other ≢ id) (there : get_elem? vs other ≡ some w)
    (sum : both.steps ≡ v.steps ++ w.steps) (none : spent.steps ≡ []) where
  pub both_to : (s : Sight) → MadeBy vs s → MadeBy (set (set vs id both) other spent) s
  both_to s t = dite (ℕ_discrete t.0 id)
      (λ (e : t.0 ≡ id). (id, both, now, subst (λ (l : List Sight). Contains l s) (sym sum) (Contains-append_left v.steps w.steps s (subst (λ (y : View). Contains y.steps s) (that vs t.0 id t.1 v t.2 here e) t.3))))
      (λ (ne : t.0 ≢ id). dite (ℕ_discrete t.0 other)
      (λ (e : t.0 ≡ other). (id, both, now, subst (λ (l : List Sight). Contains l s) (sym sum) (Contains-append_right v.steps w.steps s (subst (λ (y : View). Contains y.steps s) (that vs t.0 other t.1 w t.2 there e) t.3))))
      (λ (no : t.0 ≢ other). (t.0, t.1, set_else (set vs id both) other t.0 spent no ∙ set_else vs id t.0 both ne ∙ t.2, t.3)))
    where
      now : get_elem? (set (set vs id both) other spent) id ≡ some both
      now = set_else (set vs id both) other id spent (λ e. differ (sym e)) ∙ set_here vs id both (at_inside vs id v here)

  pub both_from : (s : Sight) → MadeBy (set (set vs id both) other spent) s → MadeBy vs s
  both_from s t = ⊎_elim
      (λ (h : (t.0 ≡ other) × (spent ≡ t.1)). absurd (nothing spent.steps s none (subst (λ (y : View). Contains y.steps s) (sym h.1) t.3)))
      (λ (h : (t.0 ≢ other) × (get_elem? (set vs id both) t.0 ≡ some t.1)). ⊎_elim
      (λ (own : Contains both.steps s). ⊎_elim
      (λ (one : Contains v.steps s). (id, v, here, one))
      (λ (two : Contains w.steps s). (other, w, there, two))
      (Contains-append_cases v.steps w.steps s (subst (λ (l : List Sight). Contains l s) sum own)))
      (λ (was : MadeBy vs s). was)
      (made_of vs id v both here s (t.0, t.1, h.1, t.3)))
      (at_set (set vs id both) other t.0 spent t.1 t.2)
