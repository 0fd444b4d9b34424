-- The order of last writes has each block once, so the oldest block that passes is one.
use Rattle.std.proofs.Common.{◌≡◌, inl, inr, ℕ, zero, suc, ◌+◌, ◌≤◌, ◌==◌, not, Bool, true, false, cond, List, [], ◌∷◌, ◌++◌, filter, slice_get, Contains, refl, sym, ap, ◌∙◌, subst, arith, Option, Some, None}
use Rattle.std.specs.List.{range_with_len}
use Rattle.std.proofs.lemmas.Bool.{cases_eq}
use Rattle.std.proofs.lemmas.Option.{same_Some, none-some}
use Rattle.std.proofs.lemmas.List.Elements.{Contains-push_cases, All-contains, All-contains_itself, All-filter, filter_passes}
use Rattle.migrator.specs.Ages.{by_number, written, IsOlder, IsOldest}
use Rattle.migrator.proofs.Oldest.{contains_following, contains_head, contains_cases}
use Rattle.flat_machine.proofs.Pairs.{equal}
use Rattle.script_laws.specs.Bench.{AreDistinct}

-- ---- a block is at one place of the order

-- a number that is read at a place is in the list
read_there : (xs : List ℕ) (i b : ℕ) → slice_get xs i ≡ Some b → Contains xs b
read_there [] i b at = absurd (none-some b at)
read_there (x ∷ xs) zero b at = subst (Contains (x ∷ xs)) (same_Some x b at) (contains_head x xs)
read_there (x ∷ xs) (suc i) b at = contains_following x b xs (read_there xs i b at)

-- a number is at one place of a distinct list
place_once : (xs : List ℕ) (i j b : ℕ) → AreDistinct xs → slice_get xs i ≡ Some b → slice_get xs j ≡ Some b → i ≡ j
place_once [] i j b apart one other = absurd (none-some b one)
place_once (x ∷ xs) zero zero b apart one other = refl
place_once (x ∷ xs) zero (suc j) b apart one other = absurd (apart.0 (subst (Contains xs) (sym (same_Some x b one)) (read_there xs j b other)))
place_once (x ∷ xs) (suc i) zero b apart one other = absurd (apart.0 (subst (Contains xs) (sym (same_Some x b other)) (read_there xs i b one)))
place_once (x ∷ xs) (suc i) (suc j) b apart one other = ap suc (place_once xs i j b apart.1 one other)

-- of two blocks one is not both older and newer than the other
not_both_older : (xs : List ℕ) (b c : ℕ) → AreDistinct xs → IsOlder xs b c → IsOlder xs c b → ⊥
not_both_older xs b c apart one other =
    let first : one.0 ≡ other.1 = place_once xs one.0 other.1 b apart one.3 other.4 in
    let second : one.1 ≡ other.0 = place_once xs one.1 other.0 c apart one.4 other.3 in
    omega (arith, one.2, other.2, first, second)

-- so the oldest block that passes is one
pub oldest_once : (xs : List ℕ) (P : ℕ → Type 0) → AreDistinct xs → (a b : Option ℕ) → IsOldest xs P a → IsOldest xs P b → a ≡ b
oldest_once xs P apart None None one other = refl
oldest_once xs P apart None (Some b) one other = absurd (one b other.among other.passes)
oldest_once xs P apart (Some a) None one other = absurd (other a one.among one.passes)
oldest_once xs P apart (Some a) (Some b) one other = elim (cases_eq a b) [
  | inl same ↦ ap (λ (n : ℕ). Some n) same
  | inr apart_is ↦ absurd (not_both_older xs a b apart (one.oldest b other.among other.passes apart_is) (other.oldest a one.among one.passes (λ e. apart_is (sym e))))
]

-- ---- the order stays distinct

-- what a filter keeps was there
filter_there : (p : ℕ → Bool) (xs : List ℕ) (x : ℕ) → Contains (filter p xs) x → Contains xs x
filter_there p xs x has = All-contains (Contains xs) (filter p xs) x (All-filter p (Contains xs) xs (All-contains_itself xs)) has

-- a filtered list stays distinct, and so does one with a new number at its end
distinct_filter : (p : ℕ → Bool) (xs : List ℕ) → AreDistinct xs → AreDistinct (filter p xs)
distinct_filter p [] apart = tt
distinct_filter p (x ∷ xs) apart = by (p x) (distinct_filter p xs apart.1)
  where
    by : (t : Bool) → AreDistinct (filter p xs) → AreDistinct (cond t (x ∷ filter p xs) (filter p xs))
    by true rest = ((λ has. apart.0 (filter_there p xs x has)), rest)
    by false rest = rest

distinct_push : (xs : List ℕ) (b : ℕ) → AreDistinct xs → (Contains xs b → ⊥) → AreDistinct (xs ++ b ∷ [])
distinct_push [] b apart not_there = ((λ has. let low = has.1 in absurd (omega arith)), tt)
distinct_push (x ∷ xs) b apart not_there = (
  λ has. elim (Contains-push_cases xs b x has) [
    | inl there ↦ apart.0 there
    | inr same ↦ not_there (subst (Contains (x ∷ xs)) (sym same) (contains_head x xs))
  ],
  distinct_push xs b apart.1 (λ there. not_there (contains_following x b xs there)),
)

-- a write keeps the order distinct
pub distinct_written : (xs : List ℕ) (b : ℕ) → AreDistinct xs → AreDistinct (written xs b)
distinct_written xs b apart = distinct_push (filter others xs) b (distinct_filter others xs apart) not_there
  where
    others : ℕ → Bool
    others c = not (c == b)

    not_there : Contains (filter others xs) b → ⊥
    not_there has =
        let passes : not (b == b) ≡ true = All-contains (λ c. not (c == b) ≡ true) (filter others xs) b (filter_passes others xs) has in
        let fails : not (b == b) ≡ false = ap not (equal b b refl) in
        let both : true ≡ false = sym passes ∙ fails in
        absurd cc

-- a range holds no number below its first, and each once
range_low : (a n x : ℕ) → Contains (range_with_len a n) x → a ≤ x
range_low a zero x has = let low = has.1 in absurd (omega arith)
range_low a (suc n) x has = elim (contains_cases a x (range_with_len (a + 1) n) has) [
  | inl same ↦ omega arith
  | inr there ↦ (let low = range_low (a + 1) n x there in omega arith)
]

distinct_range : (a n : ℕ) → AreDistinct (range_with_len a n)
distinct_range a zero = tt
distinct_range a (suc n) = ((λ has. let low = range_low (a + 1) n a has in omega arith), distinct_range (a + 1) n)

-- the first order is distinct
pub distinct_by_number : (n : ℕ) → AreDistinct (by_number n)
distinct_by_number n = distinct_range 0 n
