-- A row of numbers that are all 0, and no other, is seen by one comparison of vectors.
use Rattle.std.proofs.Common.{◌≡◌, ◌∙◌, ℕ, zero, suc, ◌+◌, ◌-◌, ◌*◌, ◌/◌, ◌^◌, ◌<◌, ◌%◌, ◌==◌, Bool, true, false, not, cond, List, length, map, replicate, get_or, slice_index, refl, sym, ap, subst, arith, w16}
use Rattle.std.proofs.lemmas.Bool.{eqb-true}
use Rattle.std.proofs.lemmas.List.{get_or-replicate, get_or-map, length-map, take_all}
use Rattle.std.proofs.lemmas.Simd.{bitmask_splat, none_from_empty_mask, get_or-chunk, get_or-sel_l, tops_compared, zip2_splat}
use Rattle.std.proofs.lemmas.Grind.{same_number_lists}
use Rattle.std.specs.Simd.Lanes.{zip2, chunk}
use lib.Lanes.{sel_l, mask_l, top}
use Rattle.migrator.specs.Counts.{if_zero}

-- ---- whether a lane isn't 0

-- whether two numbers differ
abbrev differs : ℕ → ℕ → Bool
differs a b = not (a == b)

-- the lanes that aren't 0, as a mask
abbrev some_lanes : List ℕ → ℕ
some_lanes v = mask_l (map (top 15) (zip2 (λ a b. cond (differs a b) (2 ^ 16 - 1) 0) v (replicate 16 0))) % 2 ^ 64

twice : (t : Bool) → not t ≡ false → t ≡ true
twice true e = refl
twice false e = absurd (let both : true ≡ false = e in cc)

pub lanes_blank : (v : List ℕ) → length v ≡ 16 → not (some_lanes v == 0) ≡ false → (lane : ℕ) → lane < 16 → get_or v lane 0 ≡ 0
lanes_blank v many none lane low =
    let whole = bitmask_splat w16 differs v 16 0 many (omega arith) in
    let all : chunk 0 16 v ≡ v = take_all 16 v (omega (arith, many)) in
    let empty = ap (λ l. mask_l (map (λ x. differs x 0) l)) all ∙ sym whole ∙ eqb-true _ _ (twice _ none) in
    eqb-true _ _ (twice _ (none_from_empty_mask (λ x. differs x 0) v 0 16 0 (omega (arith, many)) empty lane (omega arith) low))

pub blank_lanes : (v : List ℕ) → length v ≡ 16 → ((lane : ℕ) → lane < 16 → get_or v lane 0 ≡ 0) → not (some_lanes v == 0) ≡ false
blank_lanes v many zeros =
    let same : v ≡ replicate 16 0 = same_number_lists v (replicate 16 0) many
    (λ k low. let here : k < 16 = omega (arith, many, low) in zeros k here ∙ sym (get_or-replicate 16 k 0 0 here)) in
    rw (same) refl

-- a number that isn't above 0 is 0
pub none_above : (n : ℕ) → (0 < n → ⊥) → n ≡ 0
none_above zero none = refl
none_above (suc n) none = absurd (none (omega arith))

-- ---- the slots of groups with a count of 0

pub kept_if_zero : (counts slots : List ℕ) → length counts ≡ 16 → length slots ≡ 16 → (lane : ℕ) → lane < 16
    → get_or (sel_l (map (top 15) (zip2 (λ a b. cond (a == b) (2 ^ 16 - 1) 0) counts (replicate 16 0))) slots (replicate 16 0)) lane 0
    ≡ if_zero (get_or counts lane 0) (get_or slots lane 0)
kept_if_zero counts slots many also lane low =
    let zeros = λ (count : ℕ). count == 0 in
    let seen = tops_compared w16 (λ (a b : ℕ). a == b) counts (replicate 16 0) ∙ zip2_splat (λ (a b : ℕ). a == b) counts 16 0 many in
    ap (λ ms. get_or (sel_l ms slots (replicate 16 0)) lane 0) seen
    ∙ get_or-sel_l (map zeros counts) slots (replicate 16 0) lane 0 (omega (arith, low, many, length-map counts zeros)) (omega (arith, low, also)) low
    ∙ ap (λ t. cond t (get_or slots lane 0) (get_or (replicate 16 0) lane 0)) (get_or-map zeros counts lane 0 false (omega (arith, low, many)))
    ∙ ap (λ n. cond (get_or counts lane 0 == 0) (get_or slots lane 0) n) (get_or-replicate 16 lane 0 0 low)

none_kept : (count slots : ℕ) → (0 < slots → count ≡ 0 → ⊥) → if_zero count slots ≡ 0
none_kept count slots none = by (count == 0) refl
  where
    by : (t : Bool) → (count == 0) ≡ t → cond t slots 0 ≡ 0
    by true is = none_above slots (λ some. none some (eqb-true _ _ is))
    by false is = refl

-- ---- the lanes of a row of groups

pub lane_of : (table lanes : List ℕ) (row group : ℕ) → lanes ≡ chunk (16 * row) 16 table → group / 16 ≡ row → get_or lanes (group % 16) 0 ≡ get_or table group 0
lane_of table lanes row group is own =
    ap (λ v. get_or v (group % 16) 0) is ∙ get_or-chunk (16 * row) 16 table (group % 16) 0 (omega arith) ∙ ap (λ g. get_or table g 0) (omega (arith, own))

pub all_lanes : (lanes : List ℕ) (row : ℕ) → ((group : ℕ) → group / 16 ≡ row → get_or lanes (group % 16) 0 ≡ 0) → (lane : ℕ) → lane < 16 → get_or lanes lane 0 ≡ 0
all_lanes lanes row are lane low =
    let at : (16 * row + lane) % 16 ≡ lane = omega (arith, low) in
    subst (λ n. get_or lanes n 0 ≡ 0) at (are (16 * row + lane) (omega (arith, low)))

-- of the tables of counts and of slots
module _ (counts slots left right kept : List ℕ) (row : ℕ) (from : left ≡ chunk (16 * row) 16 counts) (upon : right ≡ chunk (16 * row) 16 slots) (is : (lane : ℕ) → lane < 16 → slice_index kept lane ≡ if_zero (slice_index left lane) (slice_index right lane)) where
  at : (group : ℕ) → group / 16 ≡ row → slice_index kept (group % 16) ≡ if_zero (slice_index counts group) (slice_index slots group)
  at group own =
      is (group % 16) (omega arith)
      ∙ ap (λ n. if_zero n (slice_index right (group % 16))) (lane_of counts left row group from own)
      ∙ ap (λ n. if_zero (slice_index counts group) n) (lane_of slots right row group upon own)

  pub blank_row : ((lane : ℕ) → lane < 16 → slice_index kept lane ≡ 0) → (group : ℕ) → group / 16 ≡ row → 0 < slice_index slots group → slice_index counts group ≡ 0 → ⊥
  blank_row blank group own some zeroed =
      let kept_none = sym (at group own) ∙ blank (group % 16) (omega arith) in
      let none : slice_index slots group ≡ 0 = subst (λ n. if_zero n (slice_index slots group) ≡ 0) zeroed kept_none in
      omega (arith, none, some)

  pub row_blank : ((group : ℕ) → group / 16 ≡ row → 0 < slice_index slots group → slice_index counts group ≡ 0 → ⊥) → (lane : ℕ) → lane < 16 → slice_index kept lane ≡ 0
  row_blank none = all_lanes kept row (λ group own. at group own ∙ none_kept (slice_index counts group) (slice_index slots group) (none group own))
