-- The newest record of a block, with one record more.
use Rattle.std.proofs.Common.{◌≡◌, ℕ, ◌≤◌, ◌<◌, List, [], ◌∷◌, ◌++◌, Contains, Option, Some, None, ◌⊎◌, inl, inr, sym, ap, ◌∙◌, arith, subst}
use Rattle.std.proofs.lemmas.List.Elements.{Contains-append_left, Contains-push, Contains-push_cases}
use Rattle.map_join.specs.declared.records.Record.{Record}
use Rattle.map_join.specs.Record.{key_of}
use Rattle.raid_c.specs.Newest.{IsGreatest, IsNewest}

-- a record that isn't greater, or is another block's
kept_by : (records : List Record) (block : ℕ) (kept r : Record) → (r.block ≡ block → key_of r ≤ key_of kept) → IsGreatest records block kept
    → IsGreatest (records ++ r ∷ []) block kept
kept_by records block kept r less was = record { listed = Contains-append_left records (r ∷ []) kept was.listed; of_block = was.of_block; most = most }
  where
    most : (q : Record) → Contains (records ++ r ∷ []) q → q.block ≡ block → key_of q ≤ key_of kept
    most q has of_block = go (Contains-push_cases records r q has)
      where
        go : Contains records q ⊎ (r ≡ q) → key_of q ≤ key_of kept
        go (inl there) = was.most q there of_block
        go (inr same) = subst (λ (p : Record). key_of p ≤ key_of kept) same (less (ap (λ (p : Record). p.block) same ∙ of_block))

pub another : (records : List Record) (block : ℕ) (newest : Option Record) (r : Record) → (r.block ≡ block → ⊥) → IsNewest records block newest → IsNewest (records ++ r ∷ []) block newest
another records block None r differs was = none
  where
    none : (q : Record) → Contains (records ++ r ∷ []) q → q.block ≡ block → ⊥
    none q has of_block = go (Contains-push_cases records r q has)
      where
        go : Contains records q ⊎ (r ≡ q) → ⊥
        go (inl there) = was q there of_block
        go (inr same) = differs (ap (λ (p : Record). p.block) same ∙ of_block)
another records block (Some kept) r differs was = kept_by records block kept r (λ e. absurd (differs e)) was

pub nothing : (block : ℕ) → IsNewest [] block None
nothing block r has of_block = absurd (none has)
  where
    none : Contains [] r → ⊥
    none (k, low, is) = omega arith

pub first : (records : List Record) (block : ℕ) (r : Record) → r.block ≡ block → IsNewest records block None → IsGreatest (records ++ r ∷ []) block r
first records block r here was = record { listed = Contains-push records r; of_block = here; most = most }
  where
    most : (q : Record) → Contains (records ++ r ∷ []) q → q.block ≡ block → key_of q ≤ key_of r
    most q has of_block = go (Contains-push_cases records r q has)
      where
        go : Contains records q ⊎ (r ≡ q) → key_of q ≤ key_of r
        go (inl there) = absurd (was q there of_block)
        go (inr same) = subst (λ (p : Record). key_of p ≤ key_of r) same (omega arith)

newer : (records : List Record) (block : ℕ) (kept r : Record) → r.block ≡ block → key_of kept < key_of r → IsGreatest records block kept → IsGreatest (records ++ r ∷ []) block r
newer records block kept r here more was = record { listed = Contains-push records r; of_block = here; most = most }
  where
    most : (q : Record) → Contains (records ++ r ∷ []) q → q.block ≡ block → key_of q ≤ key_of r
    most q has of_block = go (Contains-push_cases records r q has)
      where
        go : Contains records q ⊎ (r ≡ q) → key_of q ≤ key_of r
        go (inl there) = let low = was.most q there of_block in omega arith
        go (inr same) = subst (λ (p : Record). key_of p ≤ key_of r) same (omega arith)

-- the one of the greater key
pub later : (records : List Record) (block : ℕ) (kept r found : Record) → r.block ≡ block → (key_of r ≤ key_of kept → found ≡ kept) → (key_of kept < key_of r → found ≡ r)
    → IsGreatest records block kept → IsGreatest (records ++ r ∷ []) block found
later records block kept r found here old new was = go (either (key_of r) (key_of kept))
  where
    either : (x y : ℕ) → (x ≤ y) ⊎ (y < x)
    either x y = grind arith

    go : (key_of r ≤ key_of kept) ⊎ (key_of kept < key_of r) → IsGreatest (records ++ r ∷ []) block found
    go (inl less) = subst (λ q. IsGreatest (records ++ r ∷ []) block q) (sym (old less)) (kept_by records block kept r (λ _. less) was)
    go (inr more) = subst (λ q. IsGreatest (records ++ r ∷ []) block q) (sym (new more)) (newer records block kept r here more was)
