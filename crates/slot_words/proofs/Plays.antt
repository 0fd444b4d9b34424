-- Each kind of step keeps the rule, and what its definition says of it holds.
use Rattle.std.proofs.Common.{◌≡◌, ℕ, ◌+◌, ◌*◌, ◌^◌, ◌<◌, ◌≤◌, List, [], ◌∷◌, ◌++◌, ◌∙◌, replicate, length, set, get_or, Contains, inl, Bool, true, false, eqb, sym, refl, ap, subst, arith}
use Rattle.std.proofs.lemmas.List.{set-get_or, get_or-replicate, get_or_past, length-replicate}
use Rattle.std.proofs.lemmas.Bool.Decides.{nat_tests}
use mathlib.Core.Logic.{dite}
use native.Mathlib.Decide.{dec_lt}
use mathlib.Core.Option.{none, some}
use lib.ListN.{get_elem?}
use Rattle.atomic_table.specs.Table.{State, Me, Act, keeps, Valid, carried_after, step, Allows, Enters, Splits, Joins}
use Rattle.atomic_table.proofs.Lists.{set_again}
use prog.Atomic.{either}
use Rattle.slot_words.specs.declared.view.Held.{Held}
use Rattle.slot_words.specs.declared.view.Kind.{Kind}
use Rattle.slot_words.specs.declared.view.Kind.TheVariants.{Look, Exchange, Store}
use Rattle.slot_words.specs.declared.view.Sight.{Sight}
use Rattle.slot_words.specs.declared.view.View.{View}
use Rattle.slot_words.specs.Places.{word_of}
use Rattle.slot_words.specs.ClaimRule.{sight_at, blank, opening, held_pair, steps, RepresentsIn, HoldsPair, MadeBy, IsTransition, IsShared, ClaimRule}
use Rattle.slot_words.specs.Steps.{after_step, Sat, Looked, Taken, Freed, Differed, both_pairs, pair_part, step_part, kept_half, given_half}
use Rattle.slot_words.proofs.Lists.{nowhere, alone}
use Rattle.slot_words.proofs.Timed.{timed_next}
use Rattle.slot_words.proofs.Shared.{shared_next}
use Rattle.slot_words.proofs.Carried.{noted, entered, joined, parted, halved}
use Rattle.slot_words.proofs.Moves.{claimed, freed}

-- a load makes an empty seat
pub sits : {S : Type 0} (n slots place : ℕ)
    → Enters (λ (s : State S View). ClaimRule n s.words s.views) slots place (λ m w. Sat {S = S} (step slots place 0 0 none) (blank, []) m (w, []))
sits n slots place s rule homes fits = (blank, entered n s.words s.views rule, refl)

-- two seats become one
pub glues : {S : Type 0} (n id other : ℕ) (v w : View) → Joins (λ (s : State S View). ClaimRule n s.words s.views) id v other w (both_pairs v w) blank
glues n id other v w s rule here differ there = joined n s.words s.views id other v w rule here differ there

-- a seat is cut in two
pub parts : {S : Type 0} (n id : ℕ) (v : View) → Splits (λ (s : State S View). ClaimRule n s.words s.views) id v (pair_part v) (step_part v)
parts n id v s rule here = parted n s.words s.views id v rule here

-- a share is cut in two
pub halves : {S : Type 0} (n id : ℕ) (v : View) → 0 < length v.shares → Splits (λ (s : State S View). ClaimRule n s.words s.views) id v (kept_half v) (given_half v)
halves n id v live s rule here = halved n s.words s.views id v rule here live

-- the view of a seat whose step was the last one, found this word there, and left that one
abbrev after : Kind → List View → View → ℕ → ℕ → ℕ → List Held → List Held → View
after kind vs v place found left pairs won = after_step v (sight_at kind place found left (steps vs + 1)) pairs won

-- a seat's step is after the last one that it made
newer : (n : ℕ) (ws : List ℕ) (vs : List View) (id : ℕ) (v : View) → ClaimRule n ws vs → get_elem? vs id ≡ some v → v.sight.time < steps vs + 1
newer n ws vs id v rule here = let h = rule.timed.seen id v here in omega arith

-- a seat that has a share makes this step
shares_on : (kind : Kind) (n : ℕ) (ws : List ℕ) (vs : List View) (id : ℕ) (v : View) (place found left : ℕ) (pairs won : List Held) → ClaimRule n ws vs → get_elem? vs id ≡ some v → 0 < length v.shares
    → IsShared (set vs id (after kind vs v place found left pairs won))
shares_on kind n ws vs id v place found left pairs won rule here live = shared_next vs id v (after kind vs v place found left pairs won) rule.shared here refl live

-- a step that finds this word, and changes nothing
sees : (kind : Kind) (n : ℕ) (ws : List ℕ) (vs : List View) (id place : ℕ) (v : View) → ClaimRule n ws vs → get_elem? vs id ≡ some v → 0 < length v.shares
    → IsTransition kind (get_or ws place 0) (get_or ws place 0) → ClaimRule n ws (set vs id (after kind vs v place (get_or ws place 0) (get_or ws place 0) v.pairs v.won))
sees kind n ws vs id place v rule here live stays = noted n ws vs id v w rule here refl refl (timed_next ws ws vs id v w rule.timed here refl refl refl stays refl (λ other ne. refl))
    (shares_on kind n ws vs id v place (get_or ws place 0) (get_or ws place 0) v.pairs v.won rule here live)
  where
    w : View
    w = after kind vs v place (get_or ws place 0) (get_or ws place 0) v.pairs v.won

-- a seat looks at a word
pub looks : {S : Type 0} (n slots id place : ℕ) (me : Me S View) → me.1 ≡ [] → 0 < length me.0.shares
    → Allows (λ (s : State S View). ClaimRule n s.words s.views) slots id me place (λ m. m) (Looked {S = S} (step slots place 0 0 none) me)
looks {S} n slots id place me away live s rule homes here fits = (
  after Look s.views me.0 place (get_or s.words place 0) (get_or s.words place 0) me.0.pairs me.0.won,
  keeps,
  tt,
  rw (set-get_or s.words place 0) (sees Look n s.words s.views id place me.0 rule here live refl),
  (
    rule.low place,
    steps s.views + 1,
    newer n s.words s.views id me.0 rule here,
    λ i. (after Look s.views me.0 place (get_or s.words place 0) (get_or s.words place 0) me.0.pairs me.0.won, away i),
  ),
)

-- the exchange of a claim: it wins where it finds twice the generation before
pub takes : {S : Type 0} (n slots id slot g sought put : ℕ) (me : Me S View) → slot < n → g < 2 ^ 62 → sought ≡ 2 * g → put ≡ 2 * (g + 1) + 1
    → me.0.pairs ≡ [] → me.1 ≡ [] → 0 < length me.0.shares
    → Allows (λ (s : State S View). ClaimRule n s.words s.views) slots id me (word_of slot) (λ m. either (eqb m sought) put m)
    (Taken {S = S} (step slots (word_of slot) sought put none) me)
takes {S} n slots id slot g sought put me inside below seeks puts bare away live s rule homes here fits = go (eqb (get_or s.words (word_of slot) 0) sought) refl
  where
    x : ℕ
    x = get_or s.words (word_of slot) 0

    p : Held
    p = held_pair slot (g + 1)

    won : View
    won = after Exchange s.views me.0 (word_of slot) x put (p ∷ []) (me.0.won ++ p ∷ [])

    lost : View
    lost = after Exchange s.views me.0 (word_of slot) x x [] me.0.won

    wins : eqb x sought ≡ true → ClaimRule n (set s.words (word_of slot) (2 * (g + 1) + 1)) (set s.views id won)
    wins e = claimed n s.words s.views id g p me.0 won rule here refl refl refl
        (let is : x ≡ 2 * g = free e in λ i. sight_at Exchange (word_of slot) (is i) (puts i) (steps s.views + 1))
        (shares_on Exchange n s.words s.views id me.0 (word_of slot) x put (p ∷ []) (me.0.won ++ p ∷ []) rule here live)
        inside (free e) refl (omega arith)
      where
        free : eqb x sought ≡ true → x ≡ 2 * g
        free e = grind (arith, nat_tests)

    go : (b : Bool) → eqb x sought ≡ b → (w : View) × (a : Act S) × Valid s.homes me.1 a
        × ClaimRule n (set s.words (word_of slot) (either (eqb x sought) put x)) (set s.views id w)
        × Taken {S = S} (step slots (word_of slot) sought put none) me x (w, carried_after me.1 a)
    go true e = (
      won,
      keeps,
      tt,
      rw e (subst (λ (m : ℕ). ClaimRule n (set s.words (word_of slot) m) (set s.views id won)) (sym puts) (wins e)),
      rw e (p, refl, sym puts, steps s.views + 1, newer n s.words s.views id me.0 rule here, λ i. (won, away i)),
    )
    go false e = (
      lost,
      keeps,
      tt,
      rw (e, set-get_or) (subst (λ (l : List Held). ClaimRule n s.words (set s.views id (after Exchange s.views me.0 (word_of slot) x x l me.0.won))) bare (sees Exchange n s.words s.views id (word_of slot) me.0 rule here live (inl refl))),
      rw e (steps s.views + 1, newer n s.words s.views id me.0 rule here, λ i. (lost, away i)),
    )

-- the store of a release, by the seat that has the pair alone
pub frees : {S : Type 0} (n slots id : ℕ) (p : Held) (me : Me S View) → p.slot < n → me.0.pairs ≡ p ∷ [] → me.1 ≡ [] → 0 < length me.0.shares
    → Allows (λ (s : State S View). ClaimRule n s.words s.views) slots id me (word_of p.slot) (λ _. 2 * p.generation)
    (λ _. Freed {S = S} (step slots (word_of p.slot) (2 * p.generation) 0 none) me (2 * p.generation))
frees {S} n slots id p me inside has away live s rule homes here fits = (
  free,
  keeps,
  tt,
  freed n s.words s.views id p me.0 free rule here has refl refl refl refl (shares_on Store n s.words s.views id me.0 (word_of p.slot) (2 * p.generation + 1) (2 * p.generation) [] me.0.won rule here live) inside,
  (steps s.views + 1, newer n s.words s.views id me.0 rule here, λ i. (free, away i)),
)
  where
    free : View
    free = after Store s.views me.0 (word_of p.slot) (2 * p.generation + 1) (2 * p.generation) [] me.0.won

-- a seat that has two pairs names two slots
pub differs : {S : Type 0} (n slots id place : ℕ) (me : Me S View)
    → Allows (λ (s : State S View). ClaimRule n s.words s.views) slots id me place (λ m. m) (Differed {S = S} (step slots place 0 0 none) me)
differs {S} n slots id place me s rule homes here fits = (
  me.0,
  keeps,
  tt,
  rw (set-get_or s.words place 0, set_again s.views id me.0 here) rule,
  λ p q two same.
      let first : HoldsPair s.views id 0 p = (me.0, here, ap (λ (l : List Held). get_elem? l 0) two) in
      let second : HoldsPair s.views id 1 q = (me.0, here, ap (λ (l : List Held). get_elem? l 1) two) in
      let clash : 0 ≡ 1 = (rule.once id 0 id 1 p q first second same).1 in absurd (omega arith),
)

-- words that are all 0, and a seat that knows nothing and has the whole right
pub begins : (n : ℕ) (ws : List ℕ) → ws ≡ replicate (n + 8) 0 → ClaimRule n ws (opening ∷ [])
begins n ws all = record {
  wide = long;
  low = λ i. let e = zeros i in omega arith;
  current = λ s k p st. absurd (without (λ (u : View). u.pairs) refl s k p st);
  once = λ s k t l p q st su e. absurd (without (λ (u : View). u.pairs) refl s k p st);
  won = record {
    begun = λ slot small above. let e = zeros (word_of slot) in absurd (omega arith);
    counted = λ s k p st. absurd (without (λ (u : View). u.won) refl s k p st);
    reached = λ s k p st. absurd (without (λ (u : View). u.won) refl s k p st);
    single = λ s k t l p q st su e d. absurd (without (λ (u : View). u.won) refl s k p st);
  };
  timed = record {
    past = λ s by. absurd (unmade s by);
    latest = λ above. absurd (omega arith);
    exact = λ s by. absurd (unmade s by);
    moves = λ s by. absurd (unmade s by);
    current = λ place. let zero = zeros place in record {
      reported = λ above. absurd (omega arith);
      most = λ s l. absurd (unmade s l.made);
    };
    seen = λ s v at. subst (λ (u : View). u.sight.time ≤ 0) (alone (opening ∷ []) s opening v refl at).1 (omega arith);
  };
  shared = record {
    within = (0, omega arith);
    spent = λ s v at. subst (λ (u : View). u.shares ≡ [] → u.steps ≡ []) (alone (opening ∷ []) s opening v refl at).1 (λ none. refl);
  };
}
  where
    long : length ws ≡ n + 8
    long = ap (λ (l : List ℕ). length l) all ∙ length-replicate (n + 8) 0

    zeros : (i : ℕ) → get_or ws i 0 ≡ 0
    zeros i = dite (dec_lt i (n + 8))
        (λ (small : i < n + 8). ap (λ (l : List ℕ). get_or l i 0) all ∙ get_or-replicate (n + 8) i 0 0 small)
        (λ (high : i < n + 8 → ⊥). get_or_past ws i 0 (let is = long in omega arith))

    without : (part : View → List Held) → part opening ≡ [] → (s k : ℕ) (p : Held) → RepresentsIn part (opening ∷ []) s k p → ⊥
    without part bare s k p st =
        nowhere (part opening) k p bare (subst (λ (u : View). get_elem? (part u) k ≡ some p) (sym (alone (opening ∷ []) s opening st.0 refl st.1).1) st.2)

    unmade : (s : Sight) → MadeBy (opening ∷ []) s → ⊥
    unmade s t =
        let has : Contains [] s = subst (λ (u : View). Contains u.steps s) (sym (alone (opening ∷ []) t.0 opening t.1 refl t.2).1) t.3 in
        let k : has.0 < 0 = has.1 in omega arith
