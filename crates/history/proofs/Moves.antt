-- Each step keeps the rule.
use Rattle.std.proofs.Common.{◌≡◌, ◌≢◌, ◌⊎◌, ℕ, zero, suc, ◌+◌, ◌<◌, ◌≤◌, List, [], ◌∷◌, ◌++◌, length, set, true, false, true≢false, refl, sym, ap, ◌∙◌, subst, inl, inr, ⊎_elim, arith}
use Rattle.std.specs.Prelude.{Some}
use mathlib.Core.Option.{none, some, some-ne-none, some-injective}
use lib.ListN.{get_elem?}
use Rattle.atomic_table.specs.Table.{State, Me, keeps, step, Allows, Enters, Splits, Joins}
use Rattle.atomic_table.proofs.Lists.{at_set, set_again}
use Rattle.history.specs.declared.view.Entry.{Entry}
use Rattle.history.specs.declared.view.View.{View}
use Rattle.history.specs.Entries.{entry, entries_by, StartsWith}
use Rattle.history.specs.Rule.{keeper, nobody, lent, kept_part, hand_part, hirer, hired_hand, Fits, WorksAsHand, IsOne, with_entry, Sat, EntryAppended, Checked}
use Rattle.history.proofs.Entries.{entries_own, entries_other, starts_more, starts_self}

pub off : false ≡ true → ⊥
off e = true≢false (sym e)

module _ {E : Type 0} where
  at_end : (l : List (View E)) (a b : View E) (j : ℕ) → get_elem? (l ++ a ∷ []) j ≡ some b → ((j < length l) × (get_elem? l j ≡ some b)) ⊎ ((j ≡ length l) × (a ≡ b))
  at_end [] a b zero e = inr (refl, some-injective a b e)
  at_end [] a b (suc j) e = absurd (some-ne-none b (sym e))
  at_end (x ∷ xs) a b zero e = inl (omega arith, e)
  at_end (x ∷ xs) a b (suc j) e = ⊎_elim
      (λ (h : (j < length xs) × (get_elem? xs j ≡ some b)). let k = h.0 in inl (omega arith, h.1))
      (λ (h : (j ≡ length xs) × (a ≡ b)). inr (ap suc h.0, h.1))
      (at_end xs a b j e)

  -- where the hands of new views were hands before, one to one, the rule goes over
  moved : (T : ℕ → ℕ → Type 0) (vs us : List (View E)) (seat hired : ℕ) (log : List (Entry E)) → IsOne vs
      → ((by : ℕ) (v : View E) → get_elem? us by ≡ some v → Fits seat log hired by v)
      → ((j n : ℕ) → WorksAsHand us j n → (a : ℕ) × T j a × WorksAsHand vs a n) → ((j k a : ℕ) → T j a → T k a → j ≡ k)
      → ((n : ℕ) → hired ≤ n → entries_by n log ≡ []) → IsOne us
  moved T vs us seat hired log rule fits from single within = record {
    seat = seat;
    log = log;
    hired = hired;
    fits = fits;
    apart = λ j k n one two.
        let f = from j n one in
        let g = from k n two in
        single j k g.0 (subst (λ (a : ℕ). T j a) (rule.apart f.0 g.0 n f.2 g.2) f.1) g.1;
    within = within;
  }

  -- a view that is no keeper's and no hand's
  idle : (seat hired by : ℕ) (log : List (Entry E)) (v : View E) → v.keeps ≡ false → v.works ≡ false → Fits seat log hired by v
  idle seat hired by log v k w = record {
    keeps = λ is. absurd (off (sym k ∙ is));
    below = λ is. absurd (off (sym w ∙ is));
    mine = λ is. absurd (off (sym w ∙ is));
    seen = λ is. absurd (off (sym w ∙ is));
  }

  -- a seat that knows nothing comes
  pub entered : (vs : List (View E)) → IsOne vs → IsOne (vs ++ nobody ∷ [])
  entered vs rule = moved (λ j a. j ≡ a) vs (vs ++ nobody ∷ []) rule.seat rule.hired rule.log rule
      (λ by v at. ⊎_elim
      (λ (h : (by < length vs) × (get_elem? vs by ≡ some v)). rule.fits by v h.1)
      (λ (h : (by ≡ length vs) × (nobody ≡ v)). subst (Fits rule.seat rule.log rule.hired by) h.1 (idle rule.seat rule.hired by rule.log nobody refl refl))
      (at_end vs nobody v by at))
      (λ j n w. ⊎_elim
      (λ (h : (j < length vs) × (get_elem? vs j ≡ some w.0)). (j, refl, (w.0, h.1, w.2, w.3)))
      (λ (h : (j ≡ length vs) × (nobody ≡ w.0)). absurd (off (ap (λ (u : View E). u.works) h.1 ∙ w.2)))
      (at_end vs nobody w.0 j w.1))
      (λ j k a e f. e ∙ sym f)
      rule.within

  pub sits : {S : Type 0} (slots place : ℕ) → Enters (λ (s : State S (View E)). IsOne s.views) slots place (λ m w. Sat {S = S} (step slots place 0 0 none) (keeper 0 [], []) m (w, []))
  sits slots place s rule homes fits = (nobody, entered s.views rule, refl)

  -- a seat changes its view, and is the hand that it was
  changed : (vs : List (View E)) (id : ℕ) (v w : View E) (seat hired : ℕ) (log : List (Entry E)) → IsOne vs → get_elem? vs id ≡ some v
      → w.works ≡ v.works → w.number ≡ v.number
      → ((by : ℕ) (u : View E) → by ≢ id → get_elem? vs by ≡ some u → Fits seat log hired by u) → Fits seat log hired id w
      → ((n : ℕ) → hired ≤ n → entries_by n log ≡ []) → IsOne (set vs id w)
  changed vs id v w seat hired log rule here works number others mine within = moved (λ j a. j ≡ a) vs (set vs id w) seat hired log rule
      (λ by u at. ⊎_elim
      (λ (h : (by ≡ id) × (w ≡ u)). subst (λ (b : ℕ). Fits seat log hired b u) (sym h.0) (subst (Fits seat log hired id) h.1 mine))
      (λ (h : (by ≢ id) × (get_elem? vs by ≡ some u)). others by u h.0 h.1)
      (at_set vs id by w u at))
      (λ j n u. ⊎_elim
      (λ (h : (j ≡ id) × (w ≡ u.0)). (id, h.0, (v, here, sym works ∙ (ap (λ (x : View E). x.works) h.1 ∙ u.2), sym number ∙ (ap (λ (x : View E). x.number) h.1 ∙ u.3))))
      (λ (h : (j ≢ id) × (get_elem? vs j ≡ some u.0)). (j, refl, (u.0, h.1, u.2, u.3)))
      (at_set vs id j w u.0 u.1))
      (λ j k a e f. e ∙ sym f)
      within

  -- the keeper that was lent a hand's seat adds an entry of that hand
  pub noted : (vs : List (View E)) (id : ℕ) (v : View E) (what : E) → IsOne vs → get_elem? vs id ≡ some v → v.keeps ≡ true → v.works ≡ true
      → IsOne (set vs id (with_entry v what))
  noted vs id v what rule here is_keeper works = changed vs id v (with_entry v what) rule.seat rule.hired (rule.log ++ e ∷ []) rule here refl refl
      (λ by u ne at.
      let f = rule.fits by u at in
      record {
        keeps = λ k. absurd (ne ((f.keeps k).0 ∙ sym mine.0));
        below = f.below;
        mine = λ w. entries_other u.number rule.log e (λ same. ne (rule.apart by id u.number (u, at, w, refl) (v, here, works, same))) ∙ f.mine w;
        seen = λ w. starts_more rule.log u.seen (e ∷ []) (f.seen w);
      })
      (record {
        keeps = λ _. (mine.0, ap (λ l. l ++ e ∷ []) mine.1, mine.2);
        below = λ _. (rule.fits id v here).below works;
        mine = λ _. entries_own v.number rule.log e refl ∙ ap (λ l. l ++ e ∷ []) ((rule.fits id v here).mine works);
        seen = λ _. subst (λ l. StartsWith (rule.log ++ e ∷ []) (l ++ e ∷ [])) (sym mine.1) (starts_self (rule.log ++ e ∷ []));
      })
      (λ n far. entries_other n rule.log e (λ same. let b : v.number < rule.hired = (rule.fits id v here).below works in let t : v.number ≡ n = same in omega arith) ∙ rule.within n far)
    where
      e : Entry E
      e = entry v.number what

      mine : (id ≡ rule.seat) × (v.log ≡ rule.log) × (v.hired ≡ rule.hired)
      mine = (rule.fits id v here).keeps is_keeper

  pub appends : {S : Type 0} (slots id place : ℕ) (me : Me S (View E)) (e : E) → me.1 ≡ [] → me.0.keeps ≡ true → me.0.works ≡ true
      → Allows (λ (s : State S (View E)). IsOne s.views) slots id me place (λ m. m) (EntryAppended {S = S} (Some e) (step slots place 0 0 none) me)
  appends {S} slots id place me e bare keeps_ works s rule homes here fits = (
    with_entry me.0 e,
    keeps,
    tt,
    noted s.views id me.0 e rule here keeps_ works,
    (
      (λ i. (with_entry me.0 e, bare i)),
      subst (λ l. StartsWith l me.0.seen) (sym ((rule.fits id me.0 here).keeps keeps_).1) ((rule.fits id me.0 here).seen works),
    ),
  )

  pub checks : {S : Type 0} (slots id place : ℕ) (me : Me S (View E)) → me.1 ≡ [] → me.0.keeps ≡ true → me.0.works ≡ true
      → Allows (λ (s : State S (View E)). IsOne s.views) slots id me place (λ m. m) (Checked {S = S} (step slots place 0 0 none) me)
  checks {S} slots id place me bare keeps_ works s rule homes here fits =
      let f = rule.fits id me.0 here in
      let k = f.keeps keeps_ in (
        me.0,
        keeps,
        tt,
        subst IsOne (sym (set_again s.views id me.0 here)) rule,
        (
          (λ i. (me.0, bare i)),
          subst (λ l. entries_by me.0.number l ≡ me.0.mine) (sym k.1) (f.mine works),
          subst (λ l. StartsWith l me.0.seen) (sym k.1) (f.seen works),
          subst (λ m. me.0.number < m) (sym k.2) (f.below works),
          (λ n far. ap (entries_by n) k.1 ∙ rule.within n (subst (λ m. m ≤ n) k.2 far)),
        ),
      )

  -- a hand's seat is lent to the keeper
  pub lends : {S : Type 0} (id other : ℕ) (v w : View E) → v.keeps ≡ true → Joins (λ (s : State S (View E)). IsOne s.views) id v other w (lent v w) nobody
  lends id other v w keeps_ s rule here ne there = moved
      (λ j a. ((j ≡ id) × (a ≡ other)) ⊎ ((j ≢ id) × (j ≢ other) × (a ≡ j)))
      s.views
      (set (set s.views id (lent v w)) other nobody)
      rule.seat
      rule.hired
      rule.log
      rule
      (λ by u at. ⊎_elim
      (λ (h : (by ≡ other) × (nobody ≡ u)). subst (Fits rule.seat rule.log rule.hired by) h.1 (idle rule.seat rule.hired by rule.log nobody refl refl))
      (λ (h : (by ≢ other) × (get_elem? (set s.views id (lent v w)) by ≡ some u)). ⊎_elim
      (λ (g : (by ≡ id) × (lent v w ≡ u)). subst (λ (b : ℕ). Fits rule.seat rule.log rule.hired b u) (sym g.0) (subst (Fits rule.seat rule.log rule.hired id) g.1 both))
      (λ (g : (by ≢ id) × (get_elem? s.views by ≡ some u)). rule.fits by u g.1)
      (at_set s.views id by (lent v w) u h.1))
      (at_set (set s.views id (lent v w)) other by nobody u at))
      (λ j n u. ⊎_elim
      (λ (h : (j ≡ other) × (nobody ≡ u.0)). absurd (off (ap (λ (x : View E). x.works) h.1 ∙ u.2)))
      (λ (h : (j ≢ other) × (get_elem? (set s.views id (lent v w)) j ≡ some u.0)). ⊎_elim
      (λ (g : (j ≡ id) × (lent v w ≡ u.0)). (other, inl (g.0, refl), (w, theirs, ap (λ (x : View E). x.works) g.1 ∙ u.2, ap (λ (x : View E). x.number) g.1 ∙ u.3)))
      (λ (g : (j ≢ id) × (get_elem? s.views j ≡ some u.0)). (j, inr (g.0, h.0, refl), (u.0, g.1, u.2, u.3)))
      (at_set s.views id j (lent v w) u.0 h.1))
      (at_set (set s.views id (lent v w)) other j nobody u.0 u.1))
      (λ j k a s_ t. ⊎_elim
      (λ (x : (j ≡ id) × (a ≡ other)). ⊎_elim
      (λ (y : (k ≡ id) × (a ≡ other)). x.0 ∙ sym y.0)
      (λ (y : (k ≢ id) × (k ≢ other) × (a ≡ k)). absurd (y.1 (sym y.2 ∙ x.1)))
      t)
      (λ (x : (j ≢ id) × (j ≢ other) × (a ≡ j)). ⊎_elim
      (λ (y : (k ≡ id) × (a ≡ other)). absurd (x.1 (sym x.2 ∙ y.1)))
      (λ (y : (k ≢ id) × (k ≢ other) × (a ≡ k)). sym x.2 ∙ y.2)
      t)
      s_)
      rule.within
    where
      theirs : get_elem? s.views other ≡ some w
      theirs = ⊎_elim
          (λ (t : (other ≡ id) × (lent v w ≡ w)). absurd (ne t.0))
          (λ (t : (other ≢ id) × (get_elem? s.views other ≡ some w)). t.1)
          (at_set s.views id other (lent v w) w there)

      both : Fits rule.seat rule.log rule.hired id (lent v w)
      both =
          let f = rule.fits other w theirs in
          record {
            keeps = λ _. (rule.fits id v here).keeps keeps_;
            below = f.below;
            mine = f.mine;
            seen = f.seen;
          }

  -- the hand's seat comes back
  pub returns : {S : Type 0} (id : ℕ) (v : View E) → v.keeps ≡ true → v.works ≡ true → Splits (λ (s : State S (View E)). IsOne s.views) id v (kept_part v) (hand_part v)
  returns id v keeps_ works s rule here = moved
      (λ j a. ((j < end) × (j ≢ id) × (a ≡ j)) ⊎ ((j ≡ end) × (a ≡ id)))
      s.views
      (set s.views id (kept_part v) ++ hand_part v ∷ [])
      rule.seat
      rule.hired
      rule.log
      rule
      (λ by u at. ⊎_elim
      (λ (h : (by < end) × (get_elem? (set s.views id (kept_part v)) by ≡ some u)). ⊎_elim
      (λ (g : (by ≡ id) × (kept_part v ≡ u)). subst (λ (b : ℕ). Fits rule.seat rule.log rule.hired b u) (sym g.0) (subst (Fits rule.seat rule.log rule.hired id) g.1 kept))
      (λ (g : (by ≢ id) × (get_elem? s.views by ≡ some u)). rule.fits by u g.1)
      (at_set s.views id by (kept_part v) u h.1))
      (λ (h : (by ≡ end) × (hand_part v ≡ u)). subst (Fits rule.seat rule.log rule.hired by) h.1 (given by))
      (at_end (set s.views id (kept_part v)) (hand_part v) u by at))
      (λ j n u. ⊎_elim
      (λ (h : (j < end) × (get_elem? (set s.views id (kept_part v)) j ≡ some u.0)). ⊎_elim
      (λ (g : (j ≡ id) × (kept_part v ≡ u.0)). absurd (off (ap (λ (x : View E). x.works) g.1 ∙ u.2)))
      (λ (g : (j ≢ id) × (get_elem? s.views j ≡ some u.0)). (j, inl (h.0, g.0, refl), (u.0, g.1, u.2, u.3)))
      (at_set s.views id j (kept_part v) u.0 h.1))
      (λ (h : (j ≡ end) × (hand_part v ≡ u.0)). (id, inr (h.0, refl), (v, here, ap (λ (x : View E). x.works) h.1 ∙ u.2, ap (λ (x : View E). x.number) h.1 ∙ u.3)))
      (at_end (set s.views id (kept_part v)) (hand_part v) u.0 j u.1))
      (λ j k a s_ t. ⊎_elim
      (λ (x : (j < end) × (j ≢ id) × (a ≡ j)). ⊎_elim
      (λ (y : (k < end) × (k ≢ id) × (a ≡ k)). sym x.2 ∙ y.2)
      (λ (y : (k ≡ end) × (a ≡ id)). absurd (x.1 (sym x.2 ∙ y.1)))
      t)
      (λ (x : (j ≡ end) × (a ≡ id)). ⊎_elim
      (λ (y : (k < end) × (k ≢ id) × (a ≡ k)). absurd (y.1 (sym y.2 ∙ x.1)))
      (λ (y : (k ≡ end) × (a ≡ id)). x.0 ∙ sym y.0)
      t)
      s_)
      rule.within
    where
      end : ℕ
      end = length (set s.views id (kept_part v))

      kept : Fits rule.seat rule.log rule.hired id (kept_part v)
      kept = record {
        keeps = λ _. (rule.fits id v here).keeps keeps_;
        below = λ is. absurd (off is);
        mine = λ is. absurd (off is);
        seen = λ is. absurd (off is);
      }

      given : (by : ℕ) → Fits rule.seat rule.log rule.hired by (hand_part v)
      given by =
          let f = rule.fits id v here in
          record {
            keeps = λ is. absurd (off is);
            below = f.below;
            mine = f.mine;
            seen = f.seen;
          }

  -- the keeper hires one hand more
  pub hires : {S : Type 0} (id : ℕ) (v : View E) → v.keeps ≡ true → v.works ≡ false → Splits (λ (s : State S (View E)). IsOne s.views) id v (hirer v) (hired_hand v)
  hires id v keeps_ works s rule here = record {
    seat = rule.seat;
    log = rule.log;
    hired = rule.hired + 1;
    fits = λ by u at. ⊎_elim
        (λ (h : (by < end) × (get_elem? (set s.views id (hirer v)) by ≡ some u)). ⊎_elim
        (λ (g : (by ≡ id) × (hirer v ≡ u)). subst (λ (b : ℕ). Fits rule.seat rule.log (rule.hired + 1) b u) (sym g.0) (subst (Fits rule.seat rule.log (rule.hired + 1) id) g.1 kept))
        (λ (g : (by ≢ id) × (get_elem? s.views by ≡ some u)). other by u g.0 g.1)
        (at_set s.views id by (hirer v) u h.1))
        (λ (h : (by ≡ end) × (hired_hand v ≡ u)). subst (Fits rule.seat rule.log (rule.hired + 1) by) h.1 (new by))
        (at_end (set s.views id (hirer v)) (hired_hand v) u by at);
    apart = λ j k n one two. ⊎_elim
        (λ (x : (j < end) × WorksAsHand s.views j n). ⊎_elim
        (λ (y : (k < end) × WorksAsHand s.views k n). rule.apart j k n x.1 y.1)
        (λ (y : (k ≡ end) × (n ≡ rule.hired)). let b = under j n x.1 in let e = y.1 in absurd (omega arith))
        (from k n two))
        (λ (x : (j ≡ end) × (n ≡ rule.hired)). ⊎_elim
        (λ (y : (k < end) × WorksAsHand s.views k n). let b = under k n y.1 in let e = x.1 in absurd (omega arith))
        (λ (y : (k ≡ end) × (n ≡ rule.hired)). x.0 ∙ sym y.0)
        (from k n two))
        (from j n one);
    within = λ n far. rule.within n (omega arith);
  }
    where
      end : ℕ
      end = length (set s.views id (hirer v))

      mine : (id ≡ rule.seat) × (v.log ≡ rule.log) × (v.hired ≡ rule.hired)
      mine = (rule.fits id v here).keeps keeps_

      kept : Fits rule.seat rule.log (rule.hired + 1) id (hirer v)
      kept = record {
        keeps = λ _. (mine.0, mine.1, ap (λ m. m + 1) mine.2);
        below = λ is. absurd (off (sym works ∙ is));
        mine = λ is. absurd (off (sym works ∙ is));
        seen = λ is. absurd (off (sym works ∙ is));
      }

      other : (by : ℕ) (u : View E) → by ≢ id → get_elem? s.views by ≡ some u → Fits rule.seat rule.log (rule.hired + 1) by u
      other by u ne at =
          let f = rule.fits by u at in
          record {
            keeps = λ k. absurd (ne ((f.keeps k).0 ∙ sym mine.0));
            below = λ w. let b = f.below w in omega arith;
            mine = f.mine;
            seen = f.seen;
          }

      new : (by : ℕ) → Fits rule.seat rule.log (rule.hired + 1) by (hired_hand v)
      new by = record {
        keeps = λ is. absurd (off is);
        below = λ _. let e = mine.2 in omega arith;
        mine = λ _. rule.within v.hired (let e = mine.2 in omega arith);
        seen = λ _. subst (λ l. StartsWith rule.log l) (sym mine.1) (starts_self rule.log);
      }

      under : (j n : ℕ) → WorksAsHand s.views j n → n < rule.hired
      under j n w = subst (λ m. m < rule.hired) w.3 ((rule.fits j w.0 w.1).below w.2)

      from : (j n : ℕ) → WorksAsHand (set s.views id (hirer v) ++ hired_hand v ∷ []) j n → ((j < end) × WorksAsHand s.views j n) ⊎ ((j ≡ end) × (n ≡ rule.hired))
      from j n u = ⊎_elim
          (λ (h : (j < end) × (get_elem? (set s.views id (hirer v)) j ≡ some u.0)). ⊎_elim
          (λ (g : (j ≡ id) × (hirer v ≡ u.0)). absurd (off (sym works ∙ (ap (λ (x : View E). x.works) g.1 ∙ u.2))))
          (λ (g : (j ≢ id) × (get_elem? s.views j ≡ some u.0)). inl (h.0, (u.0, g.1, u.2, u.3)))
          (at_set s.views id j (hirer v) u.0 h.1))
          (λ (h : (j ≡ end) × (hired_hand v ≡ u.0)). inr (h.0, sym u.3 ∙ (sym (ap (λ (x : View E). x.number) h.1) ∙ mine.2)))
          (at_end (set s.views id (hirer v)) (hired_hand v) u.0 j u.1)

  pub begins : IsOne {E = E} (keeper 0 [] ∷ [])
  begins = record {
    seat = 0;
    log = [];
    hired = 0;
    fits = λ by v at. one by v at;
    apart = λ j k n a b. absurd (none_works j n a);
    within = λ n far. refl;
  }
    where
      one : (by : ℕ) (v : View E) → get_elem? (keeper 0 [] ∷ []) by ≡ some v → Fits 0 [] 0 by v
      one zero v e = subst (Fits 0 [] 0 0) (some-injective _ _ e) record {
        keeps = λ _. (refl, refl, refl);
        below = λ is. absurd (off is);
        mine = λ is. absurd (off is);
        seen = λ is. absurd (off is);
      }
      one (suc by) v e = absurd (some-ne-none v (sym e))

      none_works : (j n : ℕ) → WorksAsHand {E = E} (keeper 0 [] ∷ []) j n → ⊥
      none_works zero n w = off (ap (λ (x : View E). x.works) (some-injective _ _ w.1) ∙ w.2)
      none_works (suc j) n w = some-ne-none w.0 (sym w.1)
