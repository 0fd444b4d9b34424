-- The views after one Taker went on, after a split, and after a join.
use Rattle.std.proofs.Common.{◌≡◌, ℕ, ◌+◌, ◌-◌, ◌/◌, ◌<◌, ◌≤◌, ◌≢◌, ◌⊎◌, List, [], ◌∷◌, ◌++◌, length, set, Contains, sym, refl, ap, ◌∙◌, length-append, inl, inr, ⊎_elim, subst, arith}
use Rattle.std.proofs.lemmas.List.Elements.{Contains-append_left, Contains-append_right, Contains-append_cases, Contains-push, Contains-push_cases}
use Rattle.atomic_table.proofs.Lists.{at_set, set_here, set_else, at_longer, at_snoc}
use mathlib.Core.Option.{some, some-injective}
use mathlib.Core.Logic.{dite}
use native.Mathlib.Decide.{ℕ_discrete}
use lib.ListN.{get_elem?}
use Rattle.map_join.specs.declared.records.Record.{Record}
use Rattle.map_join.specs.Record.{key_of}
use Rattle.map_words.specs.declared.view.Found.{Found}
use Rattle.map_words.specs.declared.view.View.{View}
use Rattle.map_words.specs.Places.{word_of}
use Rattle.map_words.specs.TakeRule.{knows, steps, TakenBy, DecodesTo, TakeRule}
use Rattle.map_words.specs.Steps.{kept_half, given_half, both_views}
use Rattle.map_words.proofs.Shares.{at_inside, total_set, total_push}
use Rattle.map_words.proofs.Carried.{word, settled, stepped}

-- an empty list contains nothing
pub nothing : {A : Type 0} (l : List A) (x : A) → l ≡ [] → Contains l x → ⊥
nothing {A} l x e has = let h : Contains [] x = subst (λ (m : List A). Contains m x) e has in let k : h.0 < 0 = h.1 in omega arith

-- one Taker makes the step e
pub grown : (n : ℕ) (ws : List ℕ) (vs : List View) (id : ℕ) (v w : View) (e : Found) → TakeRule n ws vs → get_elem? vs id ≡ some v → 0 < v.share → w.share ≡ v.share
    → w.found ≡ v.found ++ e ∷ []
    → e.block < n → e.time ≡ steps vs → e.key ≡ word ws e.block → e.key ≤ e.left
    → ((r : Record) → Contains v.taken r → Contains w.taken r)
    → ((r : Record) → Contains w.taken r → Contains v.taken r ⊎ ((r.block ≡ e.block) × (key_of r ≤ e.left)))
    → (0 < e.left → ((r : Record) × (Contains w.taken r ⊎ TakenBy vs r) × DecodesTo e.block e.left r)) → TakeRule n (set ws (word_of e.block) e.left) (set vs id w)
grown n ws vs id v w e rule here live same one inside now finds_it rises more takes reports = stepped n ws vs (set vs id w) e rule
    (let sum = total_set (λ (u : View). u.share) vs id v w here in let within = rule.within in omega arith)
    (λ s x at none. ⊎_elim
    (λ (h : (s ≡ id) × (w ≡ x)). let e : w.share ≡ x.share = ap (λ (y : View). y.share) h.1 in absurd (omega arith))
    (λ (h : (s ≢ id) × (get_elem? vs s ≡ some x)). rule.spent s x h.1 none)
    (at_set vs id s w x at))
    (let sum = total_set (λ (u : View). length u.found) vs id v w here in let long : length w.found ≡ length v.found + 1 = ap (λ (l : List Found). length l) one ∙ length-append v.found (e ∷ []) in omega arith)
    inside
    now
    finds_it
    rises
    keeps
    (λ r t. ⊎_elim
    (λ (h : (t.0 ≡ id) × (w ≡ t.1)). ⊎_elim
    (λ (old : Contains v.taken r). inl (id, v, here, old))
    (λ (low : (r.block ≡ e.block) × (key_of r ≤ e.left)). inr low)
    (takes r (subst (λ (y : View). Contains y.taken r) (sym h.1) t.3)))
    (λ (h : (t.0 ≢ id) × (get_elem? vs t.0 ≡ some t.1)). inl (t.0, t.1, h.1, t.3))
    (at_set vs id t.0 w t.1 t.2))
    (λ f t. dite (ℕ_discrete t.0 id)
    (λ (is : t.0 ≡ id). (
      id,
      w,
      mine,
      subst (λ (l : List Found). Contains l f) (sym one)
          (Contains-append_left v.found (e ∷ []) f (subst (λ (y : View). Contains y.found f) (some-injective t.1 v (sym t.2 ∙ ap (get_elem? vs) is ∙ here)) t.3)),
    ))
    (λ (ne : t.0 ≢ id). (t.0, t.1, set_else vs id t.0 w ne ∙ t.2, t.3)))
    (id, w, mine, subst (λ (l : List Found). Contains l e) (sym one) (Contains-push v.found e))
    (λ f t. ⊎_elim
    (λ (h : (t.0 ≡ id) × (w ≡ t.1)). ⊎_elim
    (λ (old : Contains v.found f). inl (id, v, here, old))
    (λ (new : e ≡ f). inr new)
    (Contains-push_cases v.found e f (subst (λ (l : List Found). Contains l f) one (subst (λ (y : View). Contains y.found f) (sym h.1) t.3))))
    (λ (h : (t.0 ≢ id) × (get_elem? vs t.0 ≡ some t.1)). inl (t.0, t.1, h.1, t.3))
    (at_set vs id t.0 w t.1 t.2))
    (λ above. let t = reports above in (
      t.0,
      ⊎_elim
          (λ (own : Contains w.taken t.0). (id, w, mine, own))
          (λ (old : TakenBy vs t.0). keeps t.0 old) t.1,
      t.2,
    ))
  where
    mine : get_elem? (set vs id w) id ≡ some w
    mine = set_here vs id w (at_inside vs id v here)

    keeps : (r : Record) → TakenBy vs r → TakenBy (set vs id w) r
    keeps r t = dite (ℕ_discrete t.0 id)
        (λ (is : t.0 ≡ id). (id, w, mine, more r (subst (λ (y : View). Contains y.taken r) (some-injective t.1 v (sym t.2 ∙ ap (get_elem? vs) is ∙ here)) t.3)))
        (λ (ne : t.0 ≢ id). (t.0, t.1, set_else vs id t.0 w ne ∙ t.2, t.3))

-- some seat has this in this list
By : {A : Type 0} → (View → List A) → List View → A → Type 0
By g vs x = (seat : ℕ) × (v : View) × (get_elem? vs seat ≡ some v) × Contains (g v) x

-- what a seat that is cut in two had is the first half's, and nothing is the other's
module _ {A : Type 0} (g : View → List A) (vs : List View) (id : ℕ) (v left right : View) (here : get_elem? vs id ≡ some v) (kept : g left ≡ g v) (none : g right ≡ []) where
  cut_to : (x : A) → By g vs x → By g (set vs id left ++ right ∷ []) x
  unfolding By
  cut_to x t = dite (ℕ_discrete t.0 id)
      (λ (e : t.0 ≡ id). (
        id,
        left,
        at_longer (set vs id left) (right ∷ []) id left (set_here vs id left (at_inside vs id v here)),
        subst (λ (l : List A). Contains l x) (sym kept) (subst (λ (y : View). Contains (g y) x) (some-injective t.1 v (sym t.2 ∙ ap (get_elem? vs) e ∙ here)) t.3),
      ))
      (λ (ne : t.0 ≢ id). (t.0, t.1, at_longer (set vs id left) (right ∷ []) t.0 t.1 (set_else vs id t.0 left ne ∙ t.2), t.3))

  cut_from : (x : A) → By g (set vs id left ++ right ∷ []) x → By g vs x
  unfolding By
  cut_from x t = ⊎_elim
      (λ (old : get_elem? (set vs id left) t.0 ≡ some t.1). ⊎_elim
      (λ (h : (t.0 ≡ id) × (left ≡ t.1)). (id, v, here, subst (λ (l : List A). Contains l x) kept (subst (λ (y : View). Contains (g y) x) (sym h.1) t.3)))
      (λ (h : (t.0 ≢ id) × (get_elem? vs t.0 ≡ some t.1)). (t.0, t.1, h.1, t.3))
      (at_set vs id t.0 left t.1 old))
      (λ (new : right ≡ t.1). absurd (nothing (g right) x none (subst (λ (y : View). Contains (g y) x) (sym new) t.3)))
      (at_snoc (set vs id left) right t.1 t.0 t.2)

-- what two seats had is the one's that takes the other in
module _ {A : Type 0} (g : View → List A) (vs : List View) (id other : ℕ) (v w both spent : View) (here : get_elem? vs id ≡ some v) (differ : other ≢ id)
    (there : get_elem? vs other ≡ some w) (sum : g both ≡ g v ++ g w) (none : g spent ≡ []) where
  glue_to : (x : A) → By g vs x → By g (set (set vs id both) other spent) x
  unfolding By
  glue_to x t = dite (ℕ_discrete t.0 id)
      (λ (e : t.0 ≡ id). (
        id,
        both,
        now,
        subst (λ (l : List A). Contains l x) (sym sum)
            (Contains-append_left (g v) (g w) x (subst (λ (y : View). Contains (g y) x) (some-injective t.1 v (sym t.2 ∙ ap (get_elem? vs) e ∙ here)) t.3)),
      ))
      (λ (ne : t.0 ≢ id). dite (ℕ_discrete t.0 other)
      (λ (e : t.0 ≡ other). (
        id,
        both,
        now,
        subst (λ (l : List A). Contains l x) (sym sum)
            (Contains-append_right (g v) (g w) x (subst (λ (y : View). Contains (g y) x) (some-injective t.1 w (sym t.2 ∙ ap (get_elem? vs) e ∙ there)) t.3)),
      ))
      (λ (no : t.0 ≢ other). (t.0, t.1, set_else (set vs id both) other t.0 spent no ∙ set_else vs id t.0 both ne ∙ t.2, t.3)))
    where
      now : get_elem? (set (set vs id both) other spent) id ≡ some both
      now = set_else (set vs id both) other id spent (λ e. differ (sym e)) ∙ set_here vs id both (at_inside vs id v here)

  glue_from : (x : A) → By g (set (set vs id both) other spent) x → By g vs x
  unfolding By
  glue_from x t = ⊎_elim
      (λ (h : (t.0 ≡ other) × (spent ≡ t.1)). absurd (nothing (g spent) x none (subst (λ (y : View). Contains (g y) x) (sym h.1) t.3)))
      (λ (h : (t.0 ≢ other) × (get_elem? (set vs id both) t.0 ≡ some t.1)). ⊎_elim
      (λ (i : (t.0 ≡ id) × (both ≡ t.1)). ⊎_elim
      (λ (one : Contains (g v) x). (id, v, here, one))
      (λ (two : Contains (g w) x). (other, w, there, two))
      (Contains-append_cases (g v) (g w) x (subst (λ (l : List A). Contains l x) sum (subst (λ (y : View). Contains (g y) x) (sym i.1) t.3))))
      (λ (i : (t.0 ≢ id) × (get_elem? vs t.0 ≡ some t.1)). (t.0, t.1, i.1, t.3))
      (at_set vs id t.0 both t.1 h.1))
      (at_set (set vs id both) other t.0 spent t.1 t.2)

-- a share is cut in two
pub halved : (n : ℕ) (ws : List ℕ) (vs : List View) (id : ℕ) (v : View) → TakeRule n ws vs → get_elem? vs id ≡ some v → TakeRule n ws (set vs id (kept_half v) ++ given_half v ∷ [])
unfolding By
halved n ws vs id v rule here = settled n ws vs (set vs id (kept_half v) ++ given_half v ∷ []) rule
    (let sum = total_set (λ (u : View). u.share) vs id v (kept_half v) here in let more = total_push (λ (u : View). u.share) (set vs id (kept_half v)) (given_half v) in let within = rule.within in omega arith)
    (λ s x at none. ⊎_elim
    (λ (old : get_elem? (set vs id (kept_half v)) s ≡ some x). ⊎_elim
    (λ (h : (s ≡ id) × (kept_half v ≡ x)).
    let e : v.share - v.share / 2 ≡ x.share = ap (λ (y : View). y.share) h.1 in
    let empty = rule.spent id v here (omega arith) in
    (sym (ap (λ (y : View). y.taken) h.1) ∙ empty.0, sym (ap (λ (y : View). y.found) h.1) ∙ empty.1))
    (λ (h : (s ≢ id) × (get_elem? vs s ≡ some x)). rule.spent s x h.1 none)
    (at_set vs id s (kept_half v) x old))
    (λ (new : given_half v ≡ x). (sym (ap (λ (y : View). y.taken) new), sym (ap (λ (y : View). y.found) new)))
    (at_snoc (set vs id (kept_half v)) (given_half v) x s at))
    (let sum = total_set (λ (u : View). length u.found) vs id v (kept_half v) here in let more = total_push (λ (u : View). length u.found) (set vs id (kept_half v)) (given_half v) in omega arith)
    (cut_to {A = Record} (λ (u : View). u.taken) vs id v (kept_half v) (given_half v) here refl refl)
    (cut_from {A = Record} (λ (u : View). u.taken) vs id v (kept_half v) (given_half v) here refl refl)
    (cut_to {A = Found} (λ (u : View). u.found) vs id v (kept_half v) (given_half v) here refl refl)
    (cut_from {A = Found} (λ (u : View). u.found) vs id v (kept_half v) (given_half v) here refl refl)

-- two Takers become one
pub summed : (n : ℕ) (ws : List ℕ) (vs : List View) (id other : ℕ) (v w : View) → TakeRule n ws vs → get_elem? vs id ≡ some v → other ≢ id
    → get_elem? (set vs id (both_views v w)) other ≡ some w → TakeRule n ws (set (set vs id (both_views v w)) other (knows 0 [] []))
unfolding By
summed n ws vs id other v w rule here differ there = settled n ws vs new rule
    (let sum = total_set (λ (u : View). u.share) vs id v (both_views v w) here in let less = total_set (λ (u : View). u.share) (set vs id (both_views v w)) other w (knows 0 [] []) there in let within = rule.within in omega arith)
    (λ s x at none. ⊎_elim
    (λ (h : (s ≡ other) × (knows 0 [] [] ≡ x)). (sym (ap (λ (y : View). y.taken) h.1), sym (ap (λ (y : View). y.found) h.1)))
    (λ (h : (s ≢ other) × (get_elem? (set vs id (both_views v w)) s ≡ some x)). ⊎_elim
    (λ (i : (s ≡ id) × (both_views v w ≡ x)).
    let e : v.share + w.share ≡ x.share = ap (λ (y : View). y.share) i.1 in
    let one = rule.spent id v here (omega arith) in
    let two = rule.spent other w was_there (omega arith) in (
      sym (ap (λ (y : View). y.taken) i.1) ∙ ap (λ (l : List Record). l ++ w.taken) one.0 ∙ two.0,
      sym (ap (λ (y : View). y.found) i.1) ∙ ap (λ (l : List Found). l ++ w.found) one.1 ∙ two.1,
    ))
    (λ (i : (s ≢ id) × (get_elem? vs s ≡ some x)). rule.spent s x i.1 none)
    (at_set vs id s (both_views v w) x h.1))
    (at_set (set vs id (both_views v w)) other s (knows 0 [] []) x at))
    (let sum = total_set (λ (u : View). length u.found) vs id v (both_views v w) here in
    let less = total_set (λ (u : View). length u.found) (set vs id (both_views v w)) other w (knows 0 [] []) there in
    let long : length (v.found ++ w.found) ≡ length v.found + length w.found = length-append v.found w.found in omega arith)
    (glue_to {A = Record} (λ (u : View). u.taken) vs id other v w (both_views v w) (knows 0 [] []) here differ was_there refl refl)
    (glue_from {A = Record} (λ (u : View). u.taken) vs id other v w (both_views v w) (knows 0 [] []) here differ was_there refl refl)
    (glue_to {A = Found} (λ (u : View). u.found) vs id other v w (both_views v w) (knows 0 [] []) here differ was_there refl refl)
    (glue_from {A = Found} (λ (u : View). u.found) vs id other v w (both_views v w) (knows 0 [] []) here differ was_there refl refl)
  where
    new : List View
    new = set (set vs id (both_views v w)) other (knows 0 [] [])

    was_there : get_elem? vs other ≡ some w
    was_there = sym (set_else vs id other (both_views v w) differ) ∙ there
