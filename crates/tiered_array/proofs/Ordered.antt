-- The order of last writes keeps each block that it has.
use Rattle.std.proofs.Common.{◌≡◌, ◌⊎◌, inl, inr, ℕ, ◌<◌, ◌==◌, Bool, true, false, cond, not, if◌then◌else◌, List, [], ◌∷◌, filter, Contains, ap, ◌∙◌, sym, subst, arith}
use Rattle.std.proofs.lemmas.Bool.{cases_eq}
use Rattle.std.proofs.lemmas.List.Elements.{Contains-append_left, Contains-append_right}
use Rattle.std.proofs.lemmas.List.FromFn.{length-range_with_len, get_or-range_with_len}
use Rattle.map_join.specs.declared.records.Record.{Record}
use Rattle.flat_machine.proofs.Pairs.{unequal}
use Rattle.migrator.specs.Ages.{by_number, written}
use Rattle.migrator.proofs.Oldest.{contains_following, contains_cases, contains_head}
use Rattle.tiered_array.specs.Marking.{order_noted}

-- a filter keeps a number that it passes
still_kept : (p : ℕ → Bool) (xs : List ℕ) (c : ℕ) → p c ≡ true → Contains xs c → Contains (filter p xs) c
still_kept p [] c passes has = absurd (omega (arith, has.1))
still_kept p (x ∷ xs) c passes has = go (λ there. still_kept p xs c passes there) (contains_cases x c xs has)
  where
    rest : (t : Bool) → Contains (filter p xs) c → Contains (cond t (x ∷ filter p xs) (filter p xs)) c
    rest true there = contains_following x c (filter p xs) there
    rest false there = there

    here : (t : Bool) → t ≡ true → Contains (cond t (x ∷ filter p xs) (filter p xs)) x
    here true e = contains_head x (filter p xs)
    here false e = absurd (cc)

    go : (Contains xs c → Contains (filter p xs) c) → (x ≡ c) ⊎ Contains xs c → Contains (filter p (x ∷ xs)) c
    go following (inl same) = subst (Contains (filter p (x ∷ xs))) same (here (p x) (ap p same ∙ passes))
    go following (inr there) = rest (p x) (following there)

still_written : (order : List ℕ) (b c : ℕ) → Contains order c → Contains (written order b) c
still_written order b c has = go (cases_eq c b)
  where
    go : (c ≡ b) ⊎ (c ≡ b → ⊥) → Contains (written order b) c
    go (inl same) = Contains-append_right (filter (λ a. not (a == b)) order) (b ∷ []) c (subst (Contains (b ∷ [])) (sym same) (contains_head b []))
    go (inr other) = Contains-append_left (filter (λ a. not (a == b)) order) (b ∷ []) c (still_kept (λ a. not (a == b)) order c (ap not (unequal c b other)) has)

-- whether or not the record is noted as a write
pub still_noted : (order : List ℕ) (r : Record) (c : ℕ) → Contains order c → Contains (order_noted order r) c
still_noted order r c has = go (r.hop == 0)
  where
    go : (t : Bool) → Contains (if t then written order r.block else order) c
    go true = still_written order r.block c has
    go false = has

-- before any write each block is there
pub number_there : (blocks b : ℕ) → b < blocks → Contains (by_number blocks) b
number_there blocks b low = (b, omega (arith, low, length-range_with_len 0 blocks), omega (arith, get_or-range_with_len 0 blocks b b low))
