-- Marks of listed addresses, and writes of addresses that are listed once.
use Rattle.std.proofs.Common.{◌≡◌, ◌<◌, inl, inr, ℕ, zero, suc, arith, Bool, true, List, [], ◌∷◌, ◌++◌, length, sym, ◌∙◌, ap, subst}
use Rattle.std.specs.Prelude.{Contains, slice_index_or, slice_set, ◌↔◌}
use Rattle.std.proofs.lemmas.List.{get_or_default}
use Rattle.std.proofs.lemmas.List.Elements.{Contains-push, Contains-push_cases, Contains-append_left}
use Rattle.extent_groups.specs.declared.place.Place.{Place}
use Rattle.extent_groups.specs.Planned.{Intended, AreOnce}
use Rattle.extent_groups.proofs.Places.{get-set_same, get-set_other, same_or_not}
use Rattle.cached_drive.specs.Saving.{Units, IsMarked, IsOnce, AreDirtyMarks, writes_at, upto}
use Rattle.cached_drive.proofs.Bringing.{upto_below, in_or_not, into, back}

-- the address at an index
has_at : (xs : List ℕ) (k x : ℕ) → k < length xs → slice_index_or xs k 0 ≡ x → Contains xs x
has_at xs k x low is = (k, low, get_or_default xs k x 0 low ∙ is)

at_of : (xs : List ℕ) (k x : ℕ) → k < length xs → slice_index_or xs k x ≡ x → slice_index_or xs k 0 ≡ x
at_of xs k x low is = get_or_default xs k 0 x low ∙ is

-- one address more
once_more : (xs : List ℕ) (x : ℕ) → IsOnce xs → (Contains xs x → ⊥) → IsOnce (xs ++ x ∷ [])
once_more [] x once out i j less low same = omega (arith, less, low)
once_more (y ∷ xs) x once out i zero less low same = omega (arith, less)
once_more (y ∷ xs) x once out zero (suc j) less low same = elim (Contains-push_cases xs x y (has_at (xs ++ x ∷ []) j y (omega (arith, low)) (sym same))) [
  | inl more ↦ (let below = more.1 in once 0 (suc more.0) (omega arith) (omega (arith, below)) (sym (at_of xs more.0 y below more.2)))
  | inr is ↦ out (0, omega arith, sym is)
]
once_more (y ∷ xs) x once out (suc i) (suc j) less low same =
    once_more xs x (λ a b below inside. once (suc a) (suc b) (omega (arith, below)) (omega (arith, inside))) (λ (k, below, is). out (suc k, omega (arith, below), is))
    i j (omega (arith, less)) (omega (arith, low)) same

-- a marked address is listed
pub is_listed : (marks : List Bool) (dirty : List ℕ) (at : ℕ) → AreDirtyMarks marks dirty → IsMarked marks at → Contains dirty at
is_listed marks dirty at are mark = elim (in_or_not dirty at) [
  | inl one ↦ back dirty at one
  | inr out ↦ absurd (are.listed at (λ has. out (into dirty at has)) mark)
]

-- the same marks
pub marked_same : (old new : List Bool) (dirty : List ℕ) → AreDirtyMarks old dirty → ((a : ℕ) → IsMarked new a ↔ IsMarked old a) → AreDirtyMarks new dirty
marked_same old new dirty are same = record {
  marked = λ a has. (same a).1 (are.marked a has);
  listed = λ a out mark. are.listed a out ((same a).0 mark);
  once = are.once;
}

-- a mark more
pub marked_more : (marks : List Bool) (dirty : List ℕ) (at : ℕ) → AreDirtyMarks marks dirty → (IsMarked marks at → ⊥) → at < length marks
    → AreDirtyMarks (slice_set marks at true) (dirty ++ at ∷ [])
marked_more marks dirty at are fresh low = record {
  marked = λ a has. elim (same_or_not a at) [
    | inl is ↦ subst (λ n. IsMarked (slice_set marks at true) n) (sym is) (get-set_same marks at true low)
    | inr ne ↦ elim (Contains-push_cases dirty at a has) [
      | inl before ↦ get-set_other marks at a true ne ∙ are.marked a before
      | inr is ↦ absurd (ne (sym is))
    ]
  ];
  listed = λ a out mark. elim (same_or_not a at) [
    | inl is ↦ out (subst (Contains (dirty ++ at ∷ [])) (sym is) (Contains-push dirty at))
    | inr ne ↦ are.listed a (λ has. out (Contains-append_left dirty (at ∷ []) a has)) (sym (get-set_other marks at a true ne) ∙ mark)
  ];
  once = once_more dirty at are.once (λ has. fresh (are.marked at has));
}

-- no marks, and no addresses
pub none_marked : (marks : List Bool) → ((a : ℕ) → IsMarked marks a → ⊥) → AreDirtyMarks marks []
none_marked marks none = record { marked = λ a (k, low, is). absurd (omega (arith, low)); listed = λ a out mark. none a mark; once = λ i j less low same. omega (arith, low) }

module _ (drive : ℕ) (units : Units) where
  -- the address of one of the writes
  listed_of : (ats : List ℕ) (v : Intended) → Contains (writes_at drive units ats) v → Contains ats v.place.address
  listed_of [] v (k, low, is) = absurd (omega (arith, low))
  listed_of (at ∷ ats) v (zero, low, is) = (0, omega arith, ap (λ (w : Intended). w.place.address) is)
  listed_of (at ∷ ats) v (suc k, low, is) = let more = listed_of ats v (k, omega (arith, low), is) in let below = more.1 in (suc more.0, omega (arith, below), more.2)

  -- writes of addresses that are listed once
  pub writes_once : (ats : List ℕ) → IsOnce ats → AreOnce (writes_at drive units ats)
  writes_once [] once = tt
  writes_once (at ∷ ats) once = (
    (λ v has same.
        let more = subst (Contains ats) (ap (λ (p : Place). p.address) same) (listed_of ats v has) in
        let below = more.1 in
        once 0 (suc more.0) (omega arith) (omega (arith, below)) (sym (at_of ats more.0 at below more.2))),
    writes_once ats (λ i j less low. once (suc i) (suc j) (omega (arith, less)) (omega (arith, low))),
  )

-- the addresses 0 to count - 1
pub upto_once : (count : ℕ) → IsOnce (upto count)
upto_once zero = λ i j less low same. omega (arith, low)
upto_once (suc count) = once_more (upto count) count (upto_once count) (λ has. let low = upto_below count count has in omega (arith, low))
