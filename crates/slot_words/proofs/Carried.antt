-- The rule goes over where no word changes: a seat looks, a seat comes, two seats become one.
use Rattle.std.proofs.Common.{◌≡◌, ℕ, ◌<◌, ◌≢◌, List, [], ◌∷◌, ◌++◌, length, set, sym, refl, ◌∙◌, append-nil, subst}
use Rattle.atomic_table.proofs.Lists.{set_else}
use mathlib.Core.Option.{some}
use lib.ListN.{get_elem?}
use Rattle.slot_words.specs.declared.view.Held.{Held}
use Rattle.slot_words.specs.declared.view.View.{View}
use Rattle.slot_words.specs.ClaimRule.{blank, HoldsPair, IsWon, IsTimed, IsShared, ClaimRule}
use Rattle.slot_words.specs.Steps.{both_pairs, pair_part, step_part, kept_half, given_half}
use Rattle.slot_words.proofs.Views.{Glued, glued_once, matches_again, still_matches, matches_before, matches_after, stood_apart, matches_together}
use Rattle.slot_words.proofs.Timed.{timed_more, timed_same, timed_both, timed_parts}
use Rattle.slot_words.proofs.Shared.{shared_more, shared_both, shared_parts, shared_halves}
use Rattle.slot_words.proofs.Winning.{won_moved, won_still}

-- each pair of the new views is in the old ones, by a relation that is one to one
pub rearranged : (T : ℕ → ℕ → ℕ → ℕ → Type 0) (n : ℕ) (ws : List ℕ) (vs us : List View) → ClaimRule n ws vs
    → ((s k : ℕ) (p : Held) → HoldsPair us s k p → (a : ℕ) × (b : ℕ) × T s k a b × HoldsPair vs a b p)
    → ((s k t l a b : ℕ) → T s k a b → T t l a b → (s ≡ t) × (k ≡ l)) → IsWon n ws us → IsTimed ws us → IsShared us → ClaimRule n ws us
rearranged T n ws vs us rule from single won timed shared = record {
  wide = rule.wide;
  low = rule.low;
  current = λ s k p st. let f = from s k p st in rule.current f.0 f.1 p f.3;
  once = λ s k t l p q st su e.
      let f = from s k p st in
      let g = from t l q su in
      let same = rule.once f.0 f.1 g.0 g.1 p q f.3 g.3 e in
      single s k t l g.0 g.1 (subst (λ (a : ℕ). T s k a g.1) same.0 (subst (λ (b : ℕ). T s k f.0 b) same.1 f.2)) g.2;
  won = won;
  timed = timed;
  shared = shared;
}

-- each pair of the new views was at that place before
thinned : (n : ℕ) (ws : List ℕ) (vs us : List View) → ClaimRule n ws vs
    → ((s k : ℕ) (p : Held) → HoldsPair us s k p → HoldsPair vs s k p) → IsWon n ws us → IsTimed ws us → IsShared us → ClaimRule n ws us
thinned n ws vs us rule from = rearranged (λ s k a b. (s ≡ a) × (k ≡ b)) n ws vs us rule
    (λ s k p st. (s, k, (refl, refl), from s k p st))
    (λ s k t l a b i j. (i.0 ∙ sym j.0, i.1 ∙ sym j.1))

-- a seat makes a step that changes no word, and keeps its pairs
pub noted : (n : ℕ) (ws : List ℕ) (vs : List View) (id : ℕ) (v w : View) → ClaimRule n ws vs → get_elem? vs id ≡ some v → w.pairs ≡ v.pairs → w.won ≡ v.won
    → IsTimed ws (set vs id w) → IsShared (set vs id w) → ClaimRule n ws (set vs id w)
noted n ws vs id v w rule here pairs won timed shared = thinned n ws vs (set vs id w) rule
    (matches_again (λ (u : View). u.pairs) vs id v w here pairs)
    (won_still n ws ws vs (set vs id w) rule.won (λ slot. refl) (λ slot above. above)
    (matches_again (λ (u : View). u.won) vs id v w here won)
    (still_matches (λ (u : View). u.won) vs id v w [] here (won ∙ sym (append-nil v.won))))
    timed
    shared

-- a seat comes
pub entered : (n : ℕ) (ws : List ℕ) (vs : List View) → ClaimRule n ws vs → ClaimRule n ws (vs ++ blank ∷ [])
entered n ws vs rule = thinned n ws vs (vs ++ blank ∷ []) rule
    (matches_before (λ (u : View). u.pairs) vs blank refl)
    (won_still n ws ws vs (vs ++ blank ∷ []) rule.won (λ slot. refl) (λ slot above. above)
    (matches_before (λ (u : View). u.won) vs blank refl)
    (matches_after (λ (u : View). u.won) vs blank))
    (timed_more ws vs blank rule.timed refl refl)
    (shared_more vs rule.shared)

-- two seats become one
pub joined : (n : ℕ) (ws : List ℕ) (vs : List View) (id other : ℕ) (v w : View) → ClaimRule n ws vs → get_elem? vs id ≡ some v → other ≢ id
    → get_elem? (set vs id (both_pairs v w)) other ≡ some w → ClaimRule n ws (set (set vs id (both_pairs v w)) other blank)
joined n ws vs id other v w rule here differ there =
    rearranged (Glued id other (length v.pairs)) n ws vs (set (set vs id (both_pairs v w)) other blank) rule
    (stood_apart (λ (u : View). u.pairs) vs id other v w (both_pairs v w) blank here differ was_there refl refl)
    (λ s k t l a b i j. glued_once id other (length v.pairs) s k t l a b differ i j)
    (won_moved (Glued id other (length v.won)) n ws ws vs (set (set vs id (both_pairs v w)) other blank) rule.won (λ slot. refl) (λ slot above. above)
    (stood_apart (λ (u : View). u.won) vs id other v w (both_pairs v w) blank here differ was_there refl refl)
    (λ s k t l a b i j. glued_once id other (length v.won) s k t l a b differ i j)
    (matches_together (λ (u : View). u.won) vs id other v w (both_pairs v w) blank here differ was_there refl refl))
    (timed_both ws vs id other v w (both_pairs v w) rule.timed here differ there refl refl)
    (shared_both vs id other v w rule.shared here differ was_there)
  where
    was_there : get_elem? vs other ≡ some w
    was_there = sym (set_else vs id other (both_pairs v w) differ) ∙ there

-- a seat is cut in two
pub parted : (n : ℕ) (ws : List ℕ) (vs : List View) (id : ℕ) (v : View) → ClaimRule n ws vs → get_elem? vs id ≡ some v
    → ClaimRule n ws (set vs id (pair_part v) ++ step_part v ∷ [])
parted n ws vs id v rule here = thinned n ws vs (set vs id (pair_part v) ++ step_part v ∷ []) rule
    (λ s k p st. matches_again (λ (u : View). u.pairs) vs id v (pair_part v) here refl s k p (matches_before (λ (u : View). u.pairs) (set vs id (pair_part v)) (step_part v) refl s k p st))
    (won_still n ws ws vs (set vs id (pair_part v) ++ step_part v ∷ []) rule.won (λ slot. refl) (λ slot above. above)
    (λ s k p st. matches_again (λ (u : View). u.won) vs id v (pair_part v) here refl s k p (matches_before (λ (u : View). u.won) (set vs id (pair_part v)) (step_part v) refl s k p st))
    (λ s k p st. matches_after (λ (u : View). u.won) (set vs id (pair_part v)) (step_part v) s k p (still_matches (λ (u : View). u.won) vs id v (pair_part v) [] here (sym (append-nil v.won)) s k p st)))
    (timed_parts ws vs id v rule.timed here)
    (shared_parts vs id v rule.shared here)

-- a share is cut in two
pub halved : (n : ℕ) (ws : List ℕ) (vs : List View) (id : ℕ) (v : View) → ClaimRule n ws vs → get_elem? vs id ≡ some v → 0 < length v.shares
    → ClaimRule n ws (set vs id (kept_half v) ++ given_half v ∷ [])
halved n ws vs id v rule here live = thinned n ws vs (set vs id (kept_half v) ++ given_half v ∷ []) rule
    (λ s k p st. matches_again (λ (u : View). u.pairs) vs id v (kept_half v) here refl s k p (matches_before (λ (u : View). u.pairs) (set vs id (kept_half v)) (given_half v) refl s k p st))
    (won_still n ws ws vs (set vs id (kept_half v) ++ given_half v ∷ []) rule.won (λ slot. refl) (λ slot above. above)
    (λ s k p st. matches_again (λ (u : View). u.won) vs id v (kept_half v) here refl s k p (matches_before (λ (u : View). u.won) (set vs id (kept_half v)) (given_half v) refl s k p st))
    (λ s k p st. matches_after (λ (u : View). u.won) (set vs id (kept_half v)) (given_half v) s k p (still_matches (λ (u : View). u.won) vs id v (kept_half v) [] here (sym (append-nil v.won)) s k p st)))
    (timed_more ws (set vs id (kept_half v)) (given_half v) (timed_same ws vs id v (kept_half v) rule.timed here refl refl) refl refl)
    (shared_halves vs id v rule.shared here live)
