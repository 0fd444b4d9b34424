-- The order of steps, after one more, after a seat came, and after two seats became one.
use Rattle.std.proofs.Common.{◌≡◌, ℕ, ◌+◌, ◌<◌, ◌≤◌, ◌≢◌, ◌⊎◌, List, [], ◌∷◌, ◌++◌, length, length-append, set, get_or, Bool, true, false, nat_lt, sym, refl, ap, ◌∙◌, inl, inr, ⊎_elim, subst, arith}
use Rattle.std.proofs.lemmas.Bool.Decides.{nat_tests}
use Rattle.atomic_table.proofs.Lists.{at_set, set_else, at_snoc}
use mathlib.Core.Option.{some}
use mathlib.Core.Logic.{dite}
use native.Mathlib.Decide.{ℕ_discrete}
use lib.ListN.{get_elem?}
use Rattle.slot_words.specs.declared.view.Sight.{Sight}
use Rattle.slot_words.specs.declared.view.View.{View}
use Rattle.slot_words.specs.ClaimRule.{steps, blank, MadeBy, IsLast, IsLastLeft, IsTransition, IsTimed}
use Rattle.slot_words.specs.Sight.{later}
use Rattle.slot_words.specs.Steps.{pair_part, step_part}
use Rattle.slot_words.proofs.Sums.{total_set, total_push}
use Rattle.slot_words.proofs.Made.{next_to, next_it, next_from, same_to, same_from, parts_to, parts_from, more_to, more_from, both_to, both_from}

-- one view changes
steps_set : (vs : List View) (id : ℕ) (v w : View) → get_elem? vs id ≡ some v → steps (set vs id w) + length v.steps ≡ steps vs + length w.steps
steps_set = total_set (λ (u : View). length u.steps)

-- one view comes
steps_push : (vs : List View) (w : View) → steps (vs ++ w ∷ []) ≡ steps vs + length w.steps
steps_push = total_push (λ (u : View). length u.steps)

-- no seat's last step is after the last one
abbrev pub AreSeen : List View → Type 0
AreSeen vs = (seat : ℕ) (v : View) → get_elem? vs seat ≡ some v → v.sight.time ≤ steps vs

-- which step is the last depends on the steps alone
last_again : (P Q : Sight → Type 0) (place time : ℕ) (s : Sight) → ((t : Sight) → P t → Q t) → ((t : Sight) → Q t → P t) → IsLast P place time s → IsLast Q place time s
last_again P Q place time s to from l = record {
  made = to s l.made;
  here = l.here;
  early = l.early;
  most = λ t q at before. l.most t (from t q) at before;
}

-- and so does what is left
left_again : (P Q : Sight → Type 0) (place time word : ℕ) → ((t : Sight) → P t → Q t) → ((t : Sight) → Q t → P t) → IsLastLeft P place time word → IsLastLeft Q place time word
left_again P Q place time word to from is = record {
  reported = λ above. let t = is.reported above in (t.0, last_again P Q place time t.0 to from t.1, t.2);
  most = λ s l. is.most s (last_again Q P place time s from to l);
}

-- the steps are known to some seat as before
timed_again : (ws : List ℕ) (vs xs : List View) → IsTimed ws vs → steps xs ≡ steps vs → ((s : Sight) → MadeBy vs s → MadeBy xs s) → ((s : Sight) → MadeBy xs s → MadeBy vs s) → AreSeen xs → IsTimed ws xs
timed_again ws vs xs so same to from seen = record {
  past = λ s by. let old = so.past s (from s by) in omega arith;
  latest = λ above. let l = so.latest (omega arith) in (l.0, to l.0 l.1, l.2 ∙ sym same);
  exact = λ s by. left_again (MadeBy vs) (MadeBy xs) s.place s.time s.found to from (so.exact s (from s by));
  moves = λ s by. so.moves s (from s by);
  current = λ place. subst (λ (n : ℕ). IsLastLeft (MadeBy xs) place (n + 1) (get_or ws place 0)) (sym same)
      (left_again (MadeBy vs) (MadeBy xs) place (steps vs + 1) (get_or ws place 0) to from (so.current place));
  seen = seen;
}

-- one seat makes the step e, the last of all
timed_step : (ws us : List ℕ) (vs xs : List View) (e : Sight) → IsTimed ws vs → steps xs ≡ steps vs + 1 → e.time ≡ steps vs + 1 → e.found ≡ get_or ws e.place 0 → IsTransition e.kind e.found e.left
    → get_or us e.place 0 ≡ e.left → ((place : ℕ) → place ≢ e.place → get_or us place 0 ≡ get_or ws place 0)
    → ((s : Sight) → MadeBy vs s → MadeBy xs s) → MadeBy xs e → ((s : Sight) → MadeBy xs s → MadeBy vs s ⊎ (e ≡ s)) → AreSeen xs → IsTimed us xs
timed_step ws us vs xs e so more now finds_it moved written unmoved to made from seen = record {
  past = before;
  latest = λ _. (e, made, now ∙ sym more);
  exact = λ s by. ⊎_elim
      (λ (old : MadeBy vs s). let early = so.past s old in lasting s.place s.time s.found (omega arith) (so.exact s old))
      (λ (new : e ≡ s). subst (λ (g : Sight). IsLastLeft (MadeBy xs) g.place g.time g.found) new
      (lasting e.place e.time e.found (omega arith)
      (subst (λ (k : ℕ). IsLastLeft (MadeBy vs) e.place e.time k) (sym finds_it) (subst (λ (t : ℕ). IsLastLeft (MadeBy vs) e.place t (get_or ws e.place 0)) (sym now) (so.current e.place)))))
      (from s by);
  moves = λ s by. ⊎_elim
      (λ (old : MadeBy vs s). so.moves s old)
      (λ (new : e ≡ s). subst (λ (g : Sight). IsTransition g.kind g.found g.left) new moved)
      (from s by);
  current = λ place. dite (ℕ_discrete place e.place)
      (λ (same : place ≡ e.place). subst (λ (p : ℕ). IsLastLeft (MadeBy xs) p (steps xs + 1) (get_or us p 0)) (sym same)
      (subst (λ (k : ℕ). IsLastLeft (MadeBy xs) e.place (steps xs + 1) k) (sym written) here))
      (λ (ne : place ≢ e.place). subst (λ (k : ℕ). IsLastLeft (MadeBy xs) place (steps xs + 1) k) (sym (unmoved place ne)) (elsewhere place ne));
  seen = seen;
}
  where
    before : (s : Sight) → MadeBy xs s → s.time ≤ steps xs
    before s by = ⊎_elim
        (λ (old : MadeBy vs s). let early = so.past s old in omega arith)
        (λ (new : e ≡ s). subst (λ (g : Sight). g.time ≤ steps xs) new (omega arith))
        (from s by)

    -- what was left before a time up to now is left before it still
    lasting : (place time word : ℕ) → time ≤ steps vs + 1 → IsLastLeft (MadeBy vs) place time word → IsLastLeft (MadeBy xs) place time word
    lasting place time word past is = record {
      reported = λ above. let t = is.reported above in (t.0, still t.0 t.1, t.2);
      most = λ s l. is.most s (was s l);
    }
      where
        too_early : (s : Sight) → e ≡ s → s.time < time → ⊥
        too_early s new early = let same : e.time < time = subst (λ (g : Sight). g.time < time) (sym new) early in omega arith

        still : (s : Sight) → IsLast (MadeBy vs) place time s → IsLast (MadeBy xs) place time s
        still s l = record {
          made = to s l.made;
          here = l.here;
          early = l.early;
          most = λ t by at early. ⊎_elim
              (λ (old : MadeBy vs t). l.most t old at early)
              (λ (new : e ≡ t). absurd (too_early t new early))
              (from t by);
        }

        was : (s : Sight) → IsLast (MadeBy xs) place time s → IsLast (MadeBy vs) place time s
        was s l = record {
          made = ⊎_elim
              (λ (old : MadeBy vs s). old)
              (λ (new : e ≡ s). absurd (too_early s new l.early))
              (from s l.made);
          here = l.here;
          early = l.early;
          most = λ t by at early. l.most t (to t by) at early;
        }

    here : IsLastLeft (MadeBy xs) e.place (steps xs + 1) e.left
    here = record {
      reported = λ above. (e, record { made = made; here = refl; early = omega arith; most = λ t by at early. let old = before t by in omega arith }, refl);
      most = λ s l. ⊎_elim
          (λ (old : MadeBy vs s). let late = l.most e made refl (omega arith) in let early = so.past s old in absurd (omega arith))
          (λ (new : e ≡ s). sym (ap (λ (g : Sight). g.left) new))
          (from s l.made);
    }

    elsewhere : (place : ℕ) → place ≢ e.place → IsLastLeft (MadeBy xs) place (steps xs + 1) (get_or ws place 0)
    elsewhere place ne = record {
      reported = λ above. let t = (so.current place).reported above in (t.0, still t.0 t.1, t.2);
      most = λ s l. (so.current place).most s (was s l);
    }
      where
        other : (s : Sight) → e ≡ s → s.place ≡ place → ⊥
        other s new at = ne (sym (subst (λ (g : Sight). g.place ≡ place) (sym new) at))

        still : (s : Sight) → IsLast (MadeBy vs) place (steps vs + 1) s → IsLast (MadeBy xs) place (steps xs + 1) s
        still s l = record {
          made = to s l.made;
          here = l.here;
          early = let old = l.early in omega arith;
          most = λ t by at early. ⊎_elim
              (λ (old : MadeBy vs t). let late = so.past t old in l.most t old at (omega arith))
              (λ (new : e ≡ t). absurd (other t new at))
              (from t by);
        }

        was : (s : Sight) → IsLast (MadeBy xs) place (steps xs + 1) s → IsLast (MadeBy vs) place (steps vs + 1) s
        was s l = record {
          made = old;
          here = l.here;
          early = let late = so.past s old in omega arith;
          most = λ t by at early. l.most t (to t by) at (omega arith);
        }
          where
            old : MadeBy vs s
            old = ⊎_elim
                (λ (is : MadeBy vs s). is)
                (λ (new : e ≡ s). absurd (other s new l.here))
                (from s l.made)

-- a seat makes a step
pub timed_next : (ws us : List ℕ) (vs : List View) (id : ℕ) (v w : View) → IsTimed ws vs → get_elem? vs id ≡ some v → w.steps ≡ v.steps ++ w.sight ∷ []
    → w.sight.time ≡ steps vs + 1 → w.sight.found ≡ get_or ws w.sight.place 0 → IsTransition w.sight.kind w.sight.found w.sight.left
    → get_or us w.sight.place 0 ≡ w.sight.left → ((place : ℕ) → place ≢ w.sight.place → get_or us place 0 ≡ get_or ws place 0) → IsTimed us (set vs id w)
timed_next ws us vs id v w so here more now finds_it moved written unmoved = timed_step ws us vs (set vs id w) w.sight so sum now finds_it moved written unmoved
    (next_to vs id v w here w.sight more)
    (next_it vs id v w here w.sight more)
    (next_from vs id v w here w.sight more)
    (λ s x at. ⊎_elim
    (λ (h : (s ≡ id) × (w ≡ x)). subst (λ (y : View). y.sight.time ≤ steps (set vs id w)) h.1 (let all = sum in omega arith))
    (λ (h : (s ≢ id) × (get_elem? vs s ≡ some x)). let old = so.seen s x h.1 in let all = sum in omega arith)
    (at_set vs id s w x at))
  where
    sum : steps (set vs id w) ≡ steps vs + 1
    sum = let all = steps_set vs id v w here in let count : length w.steps ≡ length v.steps + 1 = ap (λ (l : List Sight). length l) more ∙ length-append v.steps (w.sight ∷ []) in omega arith

-- a seat comes that made no step
pub timed_more : (ws : List ℕ) (vs : List View) (w : View) → IsTimed ws vs → w.sight.time ≡ 0 → w.steps ≡ [] → IsTimed ws (vs ++ w ∷ [])
timed_more ws vs w so never none = timed_again ws vs (vs ++ w ∷ []) so sum (more_to vs w none) (more_from vs w none)
    (λ s x at. ⊎_elim
    (λ (old : get_elem? vs s ≡ some x). let h = so.seen s x old in let all = sum in omega arith)
    (λ (new : w ≡ x). subst (λ (y : View). y.sight.time ≤ steps (vs ++ w ∷ [])) new (omega arith))
    (at_snoc vs w x s at))
  where
    sum : steps (vs ++ w ∷ []) ≡ steps vs
    sum = let all = steps_push vs w in let zero : length w.steps ≡ 0 = ap (λ (l : List Sight). length l) none in omega arith

-- a seat's view changes, and its steps don't
pub timed_same : (ws : List ℕ) (vs : List View) (id : ℕ) (v w : View) → IsTimed ws vs → get_elem? vs id ≡ some v → w.sight ≡ v.sight → w.steps ≡ v.steps → IsTimed ws (set vs id w)
timed_same ws vs id v w so here last same = timed_again ws vs (set vs id w) so sum (same_to vs id v w here same) (same_from vs id v w here same)
    (λ s x at. ⊎_elim
    (λ (h : (s ≡ id) × (w ≡ x)). subst (λ (y : View). y.sight.time ≤ steps (set vs id w)) h.1 (let p = so.seen id v here in let all = sum in let e : w.sight.time ≡ v.sight.time = ap (λ (t : Sight). t.time) last in omega arith))
    (λ (h : (s ≢ id) × (get_elem? vs s ≡ some x)). let old = so.seen s x h.1 in let all = sum in omega arith)
    (at_set vs id s w x at))
  where
    sum : steps (set vs id w) ≡ steps vs
    sum = let all = steps_set vs id v w here in let count : length w.steps ≡ length v.steps = ap (λ (l : List Sight). length l) same in omega arith

-- a seat is cut in two, and the new one remembers the steps
pub timed_parts : (ws : List ℕ) (vs : List View) (id : ℕ) (v : View) → IsTimed ws vs → get_elem? vs id ≡ some v → IsTimed ws (set vs id (pair_part v) ++ step_part v ∷ [])
timed_parts ws vs id v so here = timed_again ws vs new so sum
    (parts_to vs id v (pair_part v) here (step_part v) refl refl)
    (parts_from vs id v (pair_part v) here (step_part v) refl refl)
    (λ s x at. ⊎_elim
    (λ (old : get_elem? left s ≡ some x). ⊎_elim
    (λ (h : (s ≡ id) × (pair_part v ≡ x)). subst (λ (y : View). y.sight.time ≤ steps new) h.1 (omega arith))
    (λ (h : (s ≢ id) × (get_elem? vs s ≡ some x)). let p = so.seen s x h.1 in let all = sum in omega arith)
    (at_set vs id s (pair_part v) x old))
    (λ (last : step_part v ≡ x). subst (λ (y : View). y.sight.time ≤ steps new) last (let p = so.seen id v here in let all = sum in omega arith))
    (at_snoc left (step_part v) x s at))
  where
    left : List View
    left = set vs id (pair_part v)

    new : List View
    new = left ++ step_part v ∷ []

    sum : steps new ≡ steps vs
    sum = let one = steps_set vs id v (pair_part v) here in let two = steps_push left (step_part v) in omega arith

-- the later of two is one of them
later_is : (s t : Sight) → ((later s t ≡ s) × (t.time ≤ s.time)) ⊎ ((later s t ≡ t) × (s.time < t.time))
later_is s t = go (nat_lt s.time t.time) refl
  where
    go : (b : Bool) → nat_lt s.time t.time ≡ b → ((later s t ≡ s) × (t.time ≤ s.time)) ⊎ ((later s t ≡ t) × (s.time < t.time))
    go true e = inr (rw e refl, grind (arith, nat_tests))
    go false e = inl (rw e refl, grind (arith, nat_tests))

-- two seats become one
pub timed_both : (ws : List ℕ) (vs : List View) (id other : ℕ) (v w both : View) → IsTimed ws vs → get_elem? vs id ≡ some v → other ≢ id
    → get_elem? (set vs id both) other ≡ some w → both.sight ≡ later v.sight w.sight → both.steps ≡ v.steps ++ w.steps
    → IsTimed ws (set (set vs id both) other blank)
timed_both ws vs id other v w both so here differ there last count = timed_again ws vs new so sum
    (both_to vs id other v w both blank here differ was_there count refl)
    (both_from vs id other v w both blank here differ was_there count refl)
    (λ s x at. ⊎_elim
    (λ (h : (s ≡ other) × (blank ≡ x)). subst (λ (y : View). y.sight.time ≤ steps new) h.1 (omega arith))
    (λ (h : (s ≢ other) × (get_elem? (set vs id both) s ≡ some x)). ⊎_elim
    (λ (i : (s ≡ id) × (both ≡ x)). subst (λ (y : View). y.sight.time ≤ steps new) i.1 (let e : both.sight.time ≡ newest = ap (λ (y : Sight). y.time) last in let b = bound in let all = sum in omega arith))
    (λ (i : (s ≢ id) × (get_elem? vs s ≡ some x)). let old = so.seen s x i.1 in let all = sum in omega arith)
    (at_set vs id s both x h.1))
    (at_set (set vs id both) other s blank x at))
  where
    new : List View
    new = set (set vs id both) other blank

    newest : ℕ
    newest = (later v.sight w.sight).time

    was_there : get_elem? vs other ≡ some w
    was_there = sym (set_else vs id other both differ) ∙ there

    sum : steps new ≡ steps vs
    sum = let sizes : length both.steps ≡ length v.steps + length w.steps = ap (λ (l : List Sight). length l) count ∙ length-append v.steps w.steps in let one = steps_set vs id v both here in let two = steps_set (set vs id both) other w blank there in omega arith

    bound : newest ≤ steps vs
    bound = let p = so.seen id v here in let q = so.seen other w was_there in ⊎_elim
        (λ (h : (later v.sight w.sight ≡ v.sight) × (w.sight.time ≤ v.sight.time)). let e : newest ≡ v.sight.time = ap (λ (y : Sight). y.time) h.0 in omega arith)
        (λ (h : (later v.sight w.sight ≡ w.sight) × (v.sight.time < w.sight.time)). let e : newest ≡ w.sight.time = ap (λ (y : Sight). y.time) h.0 in omega arith)
        (later_is v.sight w.sight)
