-- The map of a list that grows by one record.
use Rattle.std.proofs.Common.{◌≡◌, ℕ, ◌<◌, ◌≤◌, max, true, false, List, [], ◌∷◌, ◌++◌, Contains, ◌⊎◌, inl, inr, sym, ap, ◌∙◌, arith, subst, Result, Ok, Err, OnOk}
use Rattle.std.proofs.lemmas.List.Elements.{Contains-append_left, Contains-append_right, Contains-append_cases, Contains-push_cases, Contains-push}
use Rattle.std.proofs.lemmas.Bool.{cases_eq}
use Rattle.std.proofs.lemmas.Bool.Decides.{nat_tests}
use Rattle.std.specs.Ordering.{nat_cmp, is_eq}
use Rattle.map_join.specs.declared.records.Record.{Record}
use Rattle.map_join.specs.declared.block_map.MapRefusal.{MapRefusal}
use Rattle.map_join.specs.Record.{key_of}
use Rattle.map_join.specs.Maps.{IsSame, join, lone, only, IsMapOf}

-- two numbers compare as equal where they are one, and else not
pub tied : (a b : ℕ) → a ≡ b → is_eq (nat_cmp a b) ≡ true
tied a b e = grind (arith, nat_tests)

pub apart : (a b : ℕ) → (a ≡ b → ⊥) → is_eq (nat_cmp a b) ≡ false
apart a b ne = grind (arith, nat_tests)

-- a lone key's map has it at its block, and nothing elsewhere
pub lone_here : (here key block : ℕ) → block ≡ here → lone here key block ≡ key
lone_here here key block e = grind (arith, nat_tests)

pub lone_else : (here key block : ℕ) → (block ≡ here → ⊥) → lone here key block ≡ 0
lone_else here key block ne = grind (arith, nat_tests)

-- a record's own map has its key at its block, and nothing elsewhere
pub only_here : (r : Record) (block : ℕ) → block ≡ r.block → only r block ≡ key_of r
only_here r block e = grind (arith, nat_tests)

pub only_else : (r : Record) (block : ℕ) → (block ≡ r.block → ⊥) → only r block ≡ 0
only_else r block ne = grind (arith, nat_tests)

-- one of two numbers is their greater
either : (a b : ℕ) → (max a b ≡ a) ⊎ (max a b ≡ b)
either a b = grind arith

-- the map of some records, joined with one more record, is the map of them all
pub took : (xs : List Record) (r : Record) (M N : ℕ → ℕ) → IsSame N (join M (only r)) → IsMapOf xs M → IsMapOf (xs ++ r ∷ []) N
took xs r M N joined was = record { reported = reported; most = most }
  where
    Reports : ℕ → Type 0
    Reports block = (q : Record) × (Contains (xs ++ r ∷ []) q) × (q.block ≡ block) × (key_of q ≡ N block)

    old : (block : ℕ) → N block ≡ M block → 0 < N block → Reports block
    old block e above =
        let q = was.reported block (omega arith) in
        (q.0, Contains-append_left xs (r ∷ []) q.0 q.1, q.2, q.3 ∙ sym e)

    reported : (block : ℕ) → 0 < N block → Reports block
    reported block above = go (either (M block) (only r block)) (cases_eq block r.block)
      where
        go : ((max (M block) (only r block) ≡ M block) ⊎ (max (M block) (only r block) ≡ only r block)) → (block ≡ r.block) ⊎ (block ≡ r.block → ⊥) → Reports block
        go (inl e) _ = old block (joined block ∙ e) above
        go (inr e) (inl at) = (r, Contains-push xs r, sym at, sym (joined block ∙ e ∙ only_here r block at))
        go (inr e) (inr ne) = let is : N block ≡ 0 = joined block ∙ e ∙ only_else r block ne in absurd (omega arith)

    most : (q : Record) → Contains (xs ++ r ∷ []) q → key_of q ≤ N q.block
    most q has = go (Contains-push_cases xs r q has)
      where
        go : Contains xs q ⊎ (r ≡ q) → key_of q ≤ N q.block
        go (inl there) = let e = joined q.block in let below = was.most q there in omega arith
        go (inr is) =
            let e = joined q.block in
            let here = only_here r q.block (ap (λ (x : Record). x.block) (sym is)) in
            let same : key_of r ≡ key_of q = ap (λ (x : Record). key_of x) is in
            omega arith

-- the same where a call took the record
pub taken : (result : Result (Unit {0}) MapRefusal) (r : Record) (key : ℕ) (M N : ℕ → ℕ) → key ≡ key_of r
    → OnOk result (IsSame N (join M (lone r.block key)))
    → OnOk result ((records : List Record) → IsMapOf records M → IsMapOf (records ++ r ∷ []) N)
taken (Ok _) r key M N is joined =
    λ records was. took records r M N (subst (λ k. IsSame N (join M (lone r.block k))) is joined) was
taken (Err _) r key M N is joined = tt

-- the maps of two lists, joined, are the map of both lists together
pub together : (xs ys : List Record) (M N joined : ℕ → ℕ) → IsSame joined (join M N) → IsMapOf xs M → IsMapOf ys N → IsMapOf (xs ++ ys) joined
together xs ys M N joined is ours theirs = record { reported = reported; most = most }
  where
    Reports : ℕ → Type 0
    Reports block = (q : Record) × (Contains (xs ++ ys) q) × (q.block ≡ block) × (key_of q ≡ joined block)

    reported : (block : ℕ) → 0 < joined block → Reports block
    reported block above = go (either (M block) (N block))
      where
        go : ((max (M block) (N block) ≡ M block) ⊎ (max (M block) (N block) ≡ N block)) → Reports block
        go (inl e) =
            let same : joined block ≡ M block = is block ∙ e in
            let q = ours.reported block (omega arith) in
            (q.0, Contains-append_left xs ys q.0 q.1, q.2, q.3 ∙ sym same)
        go (inr e) =
            let same : joined block ≡ N block = is block ∙ e in
            let q = theirs.reported block (omega arith) in
            (q.0, Contains-append_right xs ys q.0 q.1, q.2, q.3 ∙ sym same)

    most : (q : Record) → Contains (xs ++ ys) q → key_of q ≤ joined q.block
    most q has = go (Contains-append_cases xs ys q has)
      where
        go : Contains xs q ⊎ Contains ys q → key_of q ≤ joined q.block
        go (inl there) = let e = is q.block in let below = ours.most q there in omega arith
        go (inr there) = let e = is q.block in let below = theirs.most q there in omega arith
