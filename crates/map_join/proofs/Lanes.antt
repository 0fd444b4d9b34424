-- The keys of a page, one after the other.
use Rattle.std.proofs.Common.{◌≡◌, ◌≢◌, ℕ, ◌+◌, ◌<◌, ◌≤◌, ◌^◌, max, suc, zero, [], ◌∷◌, length, get_or, set, slice_index, replicate, refl, sym, ap, ◌∙◌, arith, ◌⊎◌, inl, inr}
use Rattle.std.proofs.lemmas.Bool.{cases_eq, cases_lt}
use Rattle.std.proofs.lemmas.List.{get_or-set_same, get_or-set_other, get_or-replicate, get_or_past, length-replicate, length-set}
use Rattle.map_join.specs.Maps.{Lanes, IsSame, lone}
use Rattle.map_join.specs.Pages.{HasKey, IsPage}
use Rattle.map_join.specs.Tables.{IsKeyTable}
use Rattle.map_join.proofs.Joins.{lone_here, lone_else}

-- a page that has no key
abbrev pub blank : ℕ → Lanes
blank n = replicate n 0

pub blank_long : (n : ℕ) → length (blank n) ≡ n
blank_long n = length-replicate n 0

pub none_at : (n lane : ℕ) → get_or (blank n) lane 0 ≡ 0
none_at n lane = go (cases_lt lane n)
  where
    go : (lane < n) ⊎ (n ≤ lane) → get_or (blank n) lane 0 ≡ 0
    go (inl lt) = get_or-replicate n lane 0 0 lt
    go (inr le) = let long = blank_long n in get_or_past (blank n) lane 0 (omega arith)

-- a page of one key
pub one_key : (n lane key : ℕ) → lane < n → IsSame (slice_index (set (blank n) lane key)) (lone lane key)
one_key n lane key lt other = go (cases_eq other lane)
  where
    go : (other ≡ lane) ⊎ (other ≡ lane → ⊥) → get_or (set (blank n) lane key) other 0 ≡ lone lane key other
    go (inl is) =
        let long = blank_long n in
        ap (λ i. get_or (set (blank n) lane key) i 0) is ∙ get_or-set_same (blank n) lane key 0 (omega arith) ∙ sym (lone_here lane key other is)
    go (inr ne) = get_or-set_other (blank n) lane other key 0 ne ∙ none_at n other ∙ sym (lone_else lane key other ne)

-- a page of keys that a page or a table has
pub same_page : (keys table : Lanes) → IsSame (slice_index keys) (slice_index table) → IsKeyTable table → HasKey table → IsPage keys
same_page keys table same least some = record {
  least = λ lane above. let e = same lane in let l = least lane (omega arith) in omega arith;
  some = (some.0, some.1, (let e = same some.0 in let s = some.2 in omega arith));
}

pub lone_page : (keys : Lanes) (lane key : ℕ) → lane < 64 → 2 ^ 32 ≤ key → IsSame (slice_index keys) (lone lane key) → IsPage keys
lone_page keys lane key low big same = record {
  least = λ other above. go other above (cases_eq other lane);
  some = (lane, low, (let e = same lane in let h = lone_here lane key lane refl in omega arith));
}
  where
    go : (other : ℕ) → 0 < slice_index keys other → (other ≡ lane) ⊎ (other ≡ lane → ⊥) → 2 ^ 32 ≤ slice_index keys other
    go other above (inl is) = let e = same other in let h = lone_here lane key other is in omega arith
    go other above (inr ne) = let e = same other in let h = lone_else lane key other ne in absurd (omega arith)

-- keys of a table that were copied up to a lane, after which all are 0
pub record AreCopied (lane : ℕ) (table keys : Lanes) : Type 0 where
  pub long : length keys ≡ 64
  pub below : (k : ℕ) → k < lane → get_or keys k 0 ≡ get_or table k 0
  pub rest : (k : ℕ) → lane ≤ k → get_or keys k 0 ≡ 0

pub copied_none : (table : Lanes) → AreCopied 0 table (blank 64)
copied_none table = record { long = blank_long 64; below = λ k lt. absurd (omega arith); rest = λ k le. none_at 64 k }

pub copied_more : (lane : ℕ) (table keys : Lanes) → lane < 64 → AreCopied lane table keys → AreCopied (lane + 1) table (set keys lane (get_or table lane 0))
copied_more lane table keys low done = record {
  long = length-set keys lane (get_or table lane 0) ∙ done.long;
  below = λ k l. below k l (cases_eq k lane);
  rest = rest;
}
  where
    key : ℕ
    key = get_or table lane 0

    lt : lane < length keys
    lt = let long = done.long in omega arith

    below : (k : ℕ) → k < lane + 1 → (k ≡ lane) ⊎ (k ≡ lane → ⊥) → get_or (set keys lane key) k 0 ≡ get_or table k 0
    below k l (inl is) = ap (λ i. get_or (set keys lane key) i 0) is ∙ get_or-set_same keys lane key 0 lt ∙ ap (λ i. get_or table i 0) (sym is)
    below k l (inr ne) = get_or-set_other keys lane k key 0 ne ∙ done.below k (omega arith)

    rest : (k : ℕ) → lane + 1 ≤ k → get_or (set keys lane key) k 0 ≡ 0
    rest k l = let ne : k ≢ lane = omega arith in get_or-set_other keys lane k key 0 ne ∙ done.rest k (omega arith)

pub copied_all : (lane : ℕ) (table keys : Lanes) → length table ≤ lane → AreCopied lane table keys → IsSame (slice_index keys) (slice_index table)
copied_all lane table keys long done k = go (cases_lt k lane)
  where
    go : (k < lane) ⊎ (lane ≤ k) → get_or keys k 0 ≡ get_or table k 0
    go (inl lt) = done.below k lt
    go (inr le) = done.rest k le ∙ sym (get_or_past table k 0 (omega arith))

-- keys that were joined up to a lane, and are as before from there on
pub record AreJoined (lane : ℕ) (was theirs now : Lanes) : Type 0 where
  pub below : (k : ℕ) → k < lane → get_or now k 0 ≡ max (get_or was k 0) (get_or theirs k 0)
  pub rest : (k : ℕ) → lane ≤ k → get_or now k 0 ≡ get_or was k 0

pub joined_none : (was theirs : Lanes) → AreJoined 0 was theirs was
joined_none was theirs = record { below = λ k lt. absurd (omega arith); rest = λ k le. refl }

-- the first key of a page that has one
pub record IsFirstKey (keys : Lanes) (lane : ℕ) : Type 0 where
  pub low : lane < 64
  pub key : 0 < get_or keys lane 0
  pub none : (lower : ℕ) → lower < lane → get_or keys lower 0 ≡ 0

pub first_key : (keys : Lanes) → HasKey keys → (lane : ℕ) × IsFirstKey keys lane
first_key keys some = let f = from keys some.0 some.2 in (f.0, record { low = (let l = some.1 in let m = f.1 in omega arith); key = f.2; none = f.3 })
  where
    from : (xs : Lanes) (lane : ℕ) → 0 < get_or xs lane 0
        → (first : ℕ) × (first ≤ lane) × (0 < get_or xs first 0) × ((lower : ℕ) → lower < first → get_or xs lower 0 ≡ 0)
    from [] lane above = absurd (omega arith)
    from (suc x ∷ xs) lane above = (0, omega arith, omega arith, λ lower lt. absurd (omega arith))
    from (zero ∷ xs) zero above = absurd (omega arith)
    from (zero ∷ xs) (suc lane) above =
        let f = from xs lane above in
        (suc f.0, (let l = f.1 in omega arith), f.2, none f.0 f.3)
      where
        none : (first : ℕ) → ((lower : ℕ) → lower < first → get_or xs lower 0 ≡ 0) → (lower : ℕ) → lower < suc first → get_or (zero ∷ xs) lower 0 ≡ 0
        none first all zero lt = refl
        none first all (suc lower) lt = all lower (omega arith)
