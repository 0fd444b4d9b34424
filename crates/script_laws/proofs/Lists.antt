-- A map has one list of records, two maps one lowest difference, and each list of records a map.
use Rattle.std.proofs.Common.{◌≡◌, ◌⊎◌, inl, inr, ℕ, zero, suc, ◌+◌, ◌<◌, List, [], ◌∷◌, map, length, get_or, Contains, refl, sym, ap, ◌∙◌, arith, Option, Some, None}
use Rattle.std.specs.List.Sorted.{IsStrictlyIncreasing}
use Rattle.std.proofs.lemmas.List.{length-map, get_or-map}
use Rattle.std.proofs.lemmas.List.Elements.{Contains-append_right}
use Rattle.std.proofs.lemmas.List.Kept.{AllPairs-from_increasing}
use Rattle.map_join.specs.declared.records.Record.{Record}
use Rattle.map_join.specs.Maps.{IsMapOf, IsListOf, IsDifference, join, only}
use Rattle.map_join.proofs.Joins.{took, together}
use Rattle.script_laws.proofs.Quiet.{order_of}

-- ---- each list of records has a map

-- no record is in the empty list
none_there : (r : Record) → Contains [] r → ⊥
none_there r has = let h = has.1 in omega arith

pub some_map : (records : List Record) → (M : ℕ → ℕ) × IsMapOf records M
some_map [] = ((λ _. 0), record { reported = λ b some. absurd (omega arith); most = λ r has. absurd (none_there r has) })
some_map (r ∷ records) =
    let rest = some_map records in
    let none : IsMapOf [] (λ _. 0) = record { reported = λ b some. absurd (omega arith); most = λ q has. absurd (none_there q has) } in
    let one : IsMapOf (r ∷ []) (join (λ _. 0) (only r)) = took [] r (λ _. 0) _ (λ b. refl) none in
    (join (join (λ _. 0) (only r)) rest.0, together (r ∷ []) records _ rest.0 _ (λ b. refl) one rest.1)

-- ---- a map has one list

-- the blocks of the records rise
abbrev Rise : List Record → Type 0
Rise records = IsStrictlyIncreasing (map (λ (r : Record). r.block) records)

-- membership at the head and in the tail
head_there : (x : Record) (xs : List Record) → Contains (x ∷ xs) x
head_there x xs = (0, omega arith, refl)

tail_there : (x r : Record) (xs : List Record) → Contains xs r → Contains (x ∷ xs) r
tail_there x r xs has = Contains-append_right (x ∷ []) xs r has

there_cases : (x r : Record) (xs : List Record) → Contains (x ∷ xs) r → (x ≡ r) ⊎ Contains xs r
there_cases x r xs has = at has.0 has.1 has.2
  where
    at : (k : ℕ) → k < length (x ∷ xs) → get_or (x ∷ xs) k r ≡ r → (x ≡ r) ⊎ Contains xs r
    at zero low is = inl is
    at (suc k) low is = inr (k, omega arith, is)

-- the records after the first are of higher blocks
higher : (x r : Record) (xs : List Record) → Rise (x ∷ xs) → Contains xs r → x.block < r.block
higher x r xs rises has =
    let low = has.1 in
    let long = length-map xs (λ (q : Record). q.block) in
    let here : get_or (map (λ (q : Record). q.block) xs) has.0 0 ≡ r.block = get_or-map (λ (q : Record). q.block) xs has.0 r 0 has.1 ∙ ap (λ (q : Record). q.block) has.2 in
    let above : x.block < get_or (map (λ (q : Record). q.block) xs) has.0 0 =
    AllPairs-from_increasing (map (λ (q : Record). q.block) (x ∷ xs)) rises 0 (suc has.0) 0 (omega arith) (omega arith) in
    omega (arith, here, above)

-- a tail rises too
rise_tail : (x : Record) (xs : List Record) → Rise (x ∷ xs) → Rise xs
rise_tail x xs rises = λ k within. AllPairs-from_increasing (map (λ (q : Record). q.block) (x ∷ xs)) rises (suc k) (suc (k + 1)) 0 (omega arith) (omega arith)

-- two rising lists of the same records are one
rise_once : (xs ys : List Record) → Rise xs → Rise ys → ((r : Record) → Contains xs r → Contains ys r) → ((r : Record) → Contains ys r → Contains xs r) → xs ≡ ys
rise_once [] [] up too to from = refl
rise_once [] (y ∷ ys) up too to from = absurd (none_there y (from y (head_there y ys)))
rise_once (x ∷ xs) [] up too to from = absurd (none_there x (to x (head_there x xs)))
rise_once (x ∷ xs) (y ∷ ys) up too to from =
    let first : x ≡ y = heads (there_cases y x ys (to x (head_there x xs))) (there_cases x y xs (from y (head_there y ys))) in
    let rest : xs ≡ ys = rise_once xs ys (rise_tail x xs up) (rise_tail y ys too)
    (λ r has. later y r ys (there_cases y r ys (to r (tail_there x r xs has))) (λ e. same x r xs up has (first ∙ e)))
    (λ r has. later x r xs (there_cases x r xs (from r (tail_there y r ys has))) (λ e. same y r ys too has (sym first ∙ e))) in
    cc (first, rest)
  where
    heads : (y ≡ x) ⊎ Contains ys x → (x ≡ y) ⊎ Contains xs y → x ≡ y
    heads (inl e) other = sym e
    heads (inr has) (inl e) = e
    heads (inr has) (inr too_has) = let one = higher y x ys too has in let two = higher x y xs up too_has in absurd (omega arith)

    later : (z r : Record) (zs : List Record) → (z ≡ r) ⊎ Contains zs r → (z ≡ r → ⊥) → Contains zs r
    later z r zs (inl e) not_it = absurd (not_it e)
    later z r zs (inr has) not_it = has

    same : (z r : Record) (zs : List Record) → Rise (z ∷ zs) → Contains zs r → z ≡ r → ⊥
    same z r zs rises has e = let above = higher z r zs rises has in let blocks : z.block ≡ r.block = ap (λ (q : Record). q.block) e in omega arith

pub list_once : (M : ℕ → ℕ) (xs ys : List Record) → IsListOf M xs → IsListOf M ys → xs ≡ ys
list_once M xs ys a b = rise_once xs ys a.rising b.rising (λ r has. (b.each r).1 ((a.each r).0 has)) (λ r has. (a.each r).1 ((b.each r).0 has))

-- ---- two maps have one lowest difference

pub difference_once : (M N : ℕ → ℕ) (a b : Option ℕ) → IsDifference M N a → IsDifference M N b → a ≡ b
difference_once M N None None x y = refl
difference_once M N None (Some b) x y = absurd (y.differs (x b))
difference_once M N (Some a) None x y = absurd (x.differs (y a))
difference_once M N (Some a) (Some b) x y = elim (order_of a b) [
  | inl less ↦ absurd (x.differs (y.lowest a less))
  | inr (inl same) ↦ ap (λ (n : ℕ). Some n) same
  | inr (inr more) ↦ absurd (y.differs (x.lowest b more))
]
