-- Each kind of step keeps the rule, and what its definition says of it holds.
use Rattle.std.proofs.Common.{◌≡◌, ℕ, ◌<◌, ◌≤◌, ◌≢◌, ◌⊎◌, max, List, [], ◌∷◌, ◌++◌, Contains, sym, refl, ap, ◌∙◌, inl, inr, ⊎_elim, subst, le_refl, le_trans, arith}
use Rattle.std.proofs.Math.Nat.{le-max_left, le-max_right}
use Rattle.std.proofs.lemmas.List.{set-get_or}
use Rattle.std.proofs.lemmas.List.Elements.{Contains-append_left, Contains-push, Contains-push_cases}
use Rattle.atomic_table.specs.Table.{State, Me, keeps, step, Allows, Splits, Joins}
use Rattle.atomic_table.proofs.Lists.{set_again}
use mathlib.Core.Option.{none, some, some-injective}
use mathlib.Core.Logic.{dite}
use native.Mathlib.Decide.{ℕ_discrete}
use lib.ListN.{get_elem?}
use Rattle.map_join.specs.declared.records.Record.{Record}
use Rattle.map_join.specs.Record.{IsRecord, key_of}
use Rattle.map_words.specs.declared.view.Found.{Found}
use Rattle.map_words.specs.declared.view.View.{View}
use Rattle.map_words.specs.Places.{word_of}
use Rattle.map_words.specs.TakeRule.{knows, found_at, whole, steps, TakenBy, FoundBy, DecodesTo, TakeRule}
use Rattle.map_words.specs.Steps.{IsTakeStep, Saw, Closed, Weighed, IsKeyOrNone, kept_half, given_half, both_views}
use Rattle.map_words.specs.Answers.{IsUpperBound, IsGreatestKey, AreExact, HasTaken, HasFound}
use Rattle.map_words.proofs.Keys.{same_record, reported_key}
use Rattle.map_words.proofs.Shares.{shares_at, shares_two}
use Rattle.map_words.proofs.Carried.{word, relabelled}
use Rattle.map_words.proofs.Views.{nothing, grown, halved, summed}

-- a block's word is at least all that a Taker knows of the block
newest : (n : ℕ) (ws : List ℕ) (vs : List View) (id : ℕ) (v : View) (block : ℕ) → TakeRule n ws vs → get_elem? vs id ≡ some v → block < n → IsUpperBound v block (word ws block)
newest n ws vs id v block rule here inside = record {
  taken = λ r has e. subst (λ (b : ℕ). key_of r ≤ word ws b) e (rule.most r (id, v, here, has));
  found = λ f has e. dite (ℕ_discrete f.key 0)
      (λ (none : f.key ≡ 0). omega arith)
      (λ (some_key : f.key ≢ 0).
      let t = (rule.exact f (id, v, here, has)).reported (omega arith) in
      subst (λ (k : ℕ). k ≤ word ws block) t.4 ((rule.current block inside).most t.0 t.1 (t.2 ∙ e) (rule.timed t.0 t.1)));
}

-- a block's word above 0 is the key of a record that some seat took
reported_by : (n : ℕ) (ws : List ℕ) (vs : List View) (block : ℕ) → TakeRule n ws vs → block < n → 0 < word ws block
    → (r : Record) × TakenBy vs r × DecodesTo block (word ws block) r
reported_by n ws vs block rule inside above =
    let t = (rule.current block inside).reported above in
    let r = rule.known t.0 t.1 (subst (λ (k : ℕ). 0 < k) (sym t.4) above) in (
      r.0,
      r.1,
      subst (λ (k : ℕ). DecodesTo block k r.0) t.4 (subst (λ (b : ℕ). DecodesTo b t.0.left r.0) t.2 r.2),
    )

-- a block's word is no number below 2^32 but 0
is_key : (n : ℕ) (ws : List ℕ) (vs : List View) (block : ℕ) → TakeRule n ws vs → block < n → IsKeyOrNone (word ws block)
is_key n ws vs block rule small above = let t = reported_by n ws vs block rule small above in reported_key block (word ws block) t.0 t.2

-- a call of `find`: the word that was found is noted
pub sees : {S : Type 0} (n slots id block : ℕ) (me : Me S View) → block < n → 0 < me.0.share → me.1 ≡ []
    → Allows (λ (s : State S View). TakeRule n s.words s.views) slots id me (word_of block) (λ m. m) (Saw {S = S} (step slots (word_of block) 0 0 none) me)
sees {S} n slots id block me inside live away s rule homes here fits = (
  after,
  keeps,
  tt,
  grown n s.words s.views id me.0 after seen rule here live refl refl inside refl refl (le_refl old)
      (λ r has. has) (λ r has. inl has)
      (λ above. let t = reported_by n s.words s.views block rule inside above in (t.0, inr t.1, t.2)),
  reported,
)
  where
    old : ℕ
    old = word s.words block

    seen : Found
    seen = found_at block (steps s.views) old old

    after : View
    after = knows me.0.share me.0.taken (me.0.found ++ seen ∷ [])

    reported : Saw {S = S} (step slots (word_of block) 0 0 none) me old (after, me.1)
    reported b e = let same : block ≡ b = omega arith in
        subst (λ (c : ℕ). IsUpperBound me.0 c old × IsKeyOrNone old × HasFound me.0 c old after × (me.1 ≡ [])) same
        (newest n s.words s.views id me.0 block rule here inside, is_key n s.words s.views block rule inside, (steps s.views, refl), away)

-- a call of `take`: the word becomes the greater of itself and the record's key
pub takes : {S : Type 0} (n slots id : ℕ) (r : Record) (me : Me S View) → IsRecord r → r.block < n → 0 < me.0.share → me.1 ≡ []
    → Allows (λ (s : State S View). TakeRule n s.words s.views) slots id me (word_of r.block) (λ m. max m (key_of r)) (IsTakeStep {S = S} (step slots (word_of r.block) (key_of r) 0 none) me)
takes {S} n slots id r me is inside live away s rule homes here fits = (
  after,
  keeps,
  tt,
  grown n s.words s.views id me.0 after made rule here live refl refl inside refl refl (le-max_left old (key_of r))
      (λ q has. Contains-append_left me.0.taken (r ∷ []) q has)
      (λ q has. ⊎_elim
      (λ (was : Contains me.0.taken q). inl was)
      (λ (new : r ≡ q). inr (subst (λ (p : Record). (p.block ≡ r.block) × (key_of p ≤ most)) new (refl, le-max_right old (key_of r))))
      (Contains-push_cases me.0.taken r q has))
      reports,
  reported,
)
  where
    old : ℕ
    old = word s.words r.block

    most : ℕ
    most = max old (key_of r)

    made : Found
    made = found_at r.block (steps s.views) old most

    after : View
    after = knows me.0.share (me.0.taken ++ r ∷ []) (me.0.found ++ made ∷ [])

    greater : (a b : ℕ) → (max a b ≡ a) ⊎ (max a b ≡ b)
    greater a b = grind arith

    reports : 0 < most → (q : Record) × (Contains after.taken q ⊎ TakenBy s.views q) × DecodesTo r.block most q
    reports above = ⊎_elim
        (λ (same : most ≡ old). let t = reported_by n s.words s.views r.block rule inside (subst (λ (k : ℕ). 0 < k) same above) in
        (t.0, inr t.1, subst (λ (k : ℕ). DecodesTo r.block k t.0) (sym same) t.2))
        (λ (new : most ≡ key_of r). (r, inl (Contains-push me.0.taken r), record { block = refl; key = sym new; written = is.written }))
        (greater old (key_of r))

    reported : IsTakeStep {S = S} (step slots (word_of r.block) (key_of r) 0 none) me old (after, me.1)
    reported q isq place key = let blocks : r.block ≡ q.block = omega arith in
        subst (λ (p : Record). IsUpperBound me.0 p.block old × HasTaken me.0 p old after × (me.1 ≡ []))
        (same_record r q is isq blocks (sym key))
        (newest n s.words s.views id me.0 r.block rule here inside, (steps s.views, refl), away)

-- a load by the seat that has the whole share
pub closes : {S : Type 0} (n slots id block : ℕ) (me : Me S View) → block < n → me.0.share ≡ whole
    → Allows (λ (s : State S View). TakeRule n s.words s.views) slots id me (word_of block) (λ m. m) (Closed {S = S} (step slots (word_of block) 0 0 none) me)
closes {S} n slots id block me inside all s rule homes here fits = (
  me.0,
  keeps,
  tt,
  rw (set-get_or s.words (word_of block) 0, set_again s.views id me.0 here) rule,
  (
    refl,
    λ b e. let same : block ≡ b = omega arith in
        subst (λ (c : ℕ). IsGreatestKey me.0.taken c (word s.words block) × IsUpperBound me.0 c (word s.words block) × IsKeyOrNone (word s.words block) × AreExact me.0 c) same
        (record { reported = reported; most = last.taken }, last, is_key n s.words s.views block rule inside, exact),
  ),
)
  where
    last : IsUpperBound me.0 block (word s.words block)
    last = newest n s.words s.views id me.0 block rule here inside

    -- each other seat has spent its share
    alone : (seat : ℕ) (v : View) → get_elem? s.views seat ≡ some v → seat ≢ id → (v.taken ≡ []) × (v.found ≡ [])
    alone seat v there ne =
        let two = shares_two s.views id seat me.0 v here there ne in
        let within = rule.within in
        rule.spent seat v there (omega arith)

    own : (seat : ℕ) (v : View) → get_elem? s.views seat ≡ some v → seat ≡ id → v ≡ me.0
    own seat v there e = some-injective v me.0 (sym there ∙ ap (get_elem? s.views) e ∙ here)

    taken : (r : Record) → TakenBy s.views r → Contains me.0.taken r
    taken r t = dite (ℕ_discrete t.0 id)
        (λ (e : t.0 ≡ id). subst (λ (y : View). Contains y.taken r) (own t.0 t.1 t.2 e) t.3)
        (λ (ne : t.0 ≢ id). absurd (nothing t.1.taken r (alone t.0 t.1 t.2 ne).0 t.3))

    found : (f : Found) → FoundBy s.views f → Contains me.0.found f
    found f t = dite (ℕ_discrete t.0 id)
        (λ (e : t.0 ≡ id). subst (λ (y : View). Contains y.found f) (own t.0 t.1 t.2 e) t.3)
        (λ (ne : t.0 ≢ id). absurd (nothing t.1.found f (alone t.0 t.1 t.2 ne).1 t.3))

    reported : 0 < word s.words block → (r : Record) × Contains me.0.taken r × DecodesTo block (word s.words block) r
    reported above = let t = reported_by n s.words s.views block rule inside above in (t.0, taken t.0 t.1, t.2)

    left : (f : Found) → FoundBy s.views f → 0 < f.left → (r : Record) × Contains me.0.taken r × DecodesTo f.block f.left r
    left f by above = let t = rule.known f by above in (t.0, taken t.0 t.1, t.2)

    exact : AreExact me.0 block
    exact f has e = record {
      found = relabelled (FoundBy s.views) (Contains me.0.found) f.block f.time f.key found (λ g mine. (id, me.0, here, mine)) (rule.exact f (id, me.0, here, has));
      known = λ above.
          let t = (rule.exact f (id, me.0, here, has)).reported above in
          let r = left t.0 t.1 (subst (λ (k : ℕ). 0 < k) (sym t.4) above) in
          (r.0, r.1, subst (λ (k : ℕ). DecodesTo f.block k r.0) t.4 (subst (λ (c : ℕ). DecodesTo c t.0.left r.0) t.2 r.2));
      left = left f (id, me.0, here, has);
    }

-- no seat has more than the whole share
pub weighs : {S : Type 0} (n slots id place : ℕ) (me : Me S View)
    → Allows (λ (s : State S View). TakeRule n s.words s.views) slots id me place (λ m. m) (Weighed {S = S} (step slots place 0 0 none) me)
weighs {S} n slots id place me s rule homes here fits = (
  me.0,
  keeps,
  tt,
  rw (set-get_or s.words place 0, set_again s.views id me.0 here) rule,
  le_trans (shares_at s.views id me.0 here) rule.within,
)

-- a split
pub halves : {S : Type 0} (n id : ℕ) (v : View) → Splits (λ (s : State S View). TakeRule n s.words s.views) id v (kept_half v) (given_half v)
halves n id v s rule here = halved n s.words s.views id v rule here

-- a join
pub sums : {S : Type 0} (n id other : ℕ) (v w : View) → Joins (λ (s : State S View). TakeRule n s.words s.views) id v other w (both_views v w) (knows 0 [] [])
sums n id other v w s rule here differ there = summed n s.words s.views id other v w rule here differ there
