-- Pages in order, met one after the other: those before a page, the page, and the rest.
use Rattle.std.proofs.Common.{◌≡◌, ℕ, ◌/◌, ◌%◌, ◌<◌, ◌≤◌, max, [], ◌∷◌, ◌++◌, slice_index, refl, sym, ap, ◌∙◌, subst, arith, append_assoc, Option, Some, None, ◌⊎◌, inl, inr, Less, Bor}
use Rattle.std.proofs.lemmas.Bool.{cases_eq}
use Rattle.std.proofs.lemmas.Bool.Decides.{nat_tests}
use Rattle.std.proofs.lemmas.Map.Entries.{lookup_head, lookup_tail}
use Rattle.std.proofs.lemmas.Map.Iter.{rest_more}
use Rattle.std.proofs.lemmas.Map.Keys.{sorted_head, sorted_tail}
use Rattle.std.specs.Map.Iter.{TakesFirst, deref_pair}
use Rattle.std.specs.List.{AllByRecursion}
use Rattle.std.specs.Map.{keys_of}
use Rattle.std.specs.Ordering.{nat_cmp, is_eq}
use Rattle.map_join.specs.Maps.{Lanes, Entries, find, at, lanes_of, AreInOrder, IsSame, join}
use Rattle.map_join.specs.Pages.{paged}
use Rattle.map_join.proofs.Joins.{tied, apart}
use Rattle.map_join.proofs.Paged.{at_is, paged_here, paged_else}

below : (a b : ℕ) → nat_cmp a b ≡ Less → a < b
below a b is = grind (arith, nat_tests)

-- the first page is found at its number, and not at another one
found : (e : ℕ × Lanes) (es : Entries) (number : ℕ) → number ≡ e.0 → find (e ∷ es) number ≡ Some e.1
found e es number is = lookup_head (λ n. is_eq (nat_cmp number n)) e es (tied number e.0 is)

passed : (e : ℕ × Lanes) (es : Entries) (number : ℕ) → (number ≡ e.0 → ⊥) → find (e ∷ es) number ≡ find es number
passed e es number ne = lookup_tail (λ n. is_eq (nat_cmp number n)) e es (apart number e.0 ne)

-- pages of lower numbers, and pages of higher ones, don't have a number
lower : (es : Entries) (here number : ℕ) → AllByRecursion (λ n. n < here) (keys_of es) → here ≤ number → find es number ≡ None
lower [] here number all le = refl
lower (e ∷ es) here number all le =
    passed e es number (λ is. let lt = all.0 in absurd (omega arith)) ∙ lower es here number all.1 le

higher : (es : Entries) (here number : ℕ) → AllByRecursion (λ n. nat_cmp here n ≡ Less) (keys_of es) → number ≤ here → find es number ≡ None
higher [] here number all le = refl
higher (e ∷ es) here number all le =
    passed e es number (λ is. let lt = below here e.0 all.0 in absurd (omega arith)) ∙ higher es here number all.1 le

-- what is found in the prefix is found, and where the prefix has nothing, what is found after it
in_front : (front es : Entries) (number : ℕ) (keys : Lanes) → find front number ≡ Some keys → find (front ++ es) number ≡ Some keys
in_front [] es number keys is = absurd (none_some is)
  where
    none_some : None ≡ Some keys → ⊥
    none_some e = cc
in_front (e ∷ front) es number keys is =
    go (cases_eq number e.0) (λ ne. in_front front es number keys (sym (passed e front number ne) ∙ is))
  where
    go : (number ≡ e.0) ⊎ (number ≡ e.0 → ⊥) → ((number ≡ e.0 → ⊥) → find (front ++ es) number ≡ Some keys) → find (e ∷ (front ++ es)) number ≡ Some keys
    go (inl same) later = found e (front ++ es) number same ∙ sym (found e front number same) ∙ is
    go (inr ne) later = passed e (front ++ es) number ne ∙ later ne

following : (front es : Entries) (number : ℕ) → find front number ≡ None → find (front ++ es) number ≡ find es number
following [] es number none = refl
following (e ∷ front) es number none =
    go (cases_eq number e.0) (λ ne. following front es number (sym (passed e front number ne) ∙ none))
  where
    none_some : None ≡ Some e.1 → ⊥
    none_some p = cc

    go : (number ≡ e.0) ⊎ (number ≡ e.0 → ⊥) → ((number ≡ e.0 → ⊥) → find (front ++ es) number ≡ find es number) → find (e ∷ (front ++ es)) number ≡ find es number
    go (inl same) later = absurd (none_some (sym none ∙ found e front number same))
    go (inr ne) later = passed e (front ++ es) number ne ∙ later ne

-- where the rest doesn't have the number, what is found is what the prefix has
only_front : (front es : Entries) (number : ℕ) → find es number ≡ None → find (front ++ es) number ≡ find front number
only_front front es number none = go (find front number) refl
  where
    go : (o : Option Lanes) → find front number ≡ o → find (front ++ es) number ≡ find front number
    go None e = following front es number e ∙ none ∙ sym e
    go (Some keys) e = in_front front es number keys e ∙ sym e

-- in order, the pages before one have lower numbers, and those after it higher ones
reaches : (P : ℕ → Type 0) (front : Entries) (e : ℕ × Lanes) (rest : Entries) → AllByRecursion P (keys_of (front ++ e ∷ rest)) → P e.0
reaches P [] e rest all = all.0
reaches P (x ∷ front) e rest all = reaches P front e rest all.1

all_lower : (front : Entries) (e : ℕ × Lanes) (rest : Entries) → AreInOrder (front ++ e ∷ rest) → AllByRecursion (λ n. n < e.0) (keys_of front)
all_lower [] e rest order = tt
all_lower (x ∷ front) e rest order =
    let first = sorted_head nat_cmp x.0 (keys_of (front ++ e ∷ rest)) order in
    let later = sorted_tail nat_cmp x.0 (keys_of (front ++ e ∷ rest)) order in
    (below x.0 e.0 (reaches (λ n. nat_cmp x.0 n ≡ Less) front e rest first), all_lower front e rest later)

all_higher : (front : Entries) (e : ℕ × Lanes) (rest : Entries) → AreInOrder (front ++ e ∷ rest) → AllByRecursion (λ n. nat_cmp e.0 n ≡ Less) (keys_of rest)
all_higher [] e rest order = sorted_head nat_cmp e.0 (keys_of rest) order
all_higher (x ∷ front) e rest order = all_higher front e rest (sorted_tail nat_cmp x.0 (keys_of (front ++ e ∷ rest)) order)

-- a page that is met, in pages in order
pub record IsMet (es front : Entries) (number : ℕ) (keys : Lanes) (rest : Entries) : Type 0 where
  pub order : AreInOrder es
  pub parts : front ++ (number, keys) ∷ rest ≡ es

-- the page that an iterator gives is met
pub now_met : (inside es front left rest : Entries) (next : Option (Bor ℕ × Bor Lanes)) (number : Bor ℕ) (keys : Bor Lanes) → inside ≡ es → AreInOrder inside
    → front ++ left ≡ es → next ≡ Some (number, keys) → TakesFirst deref_pair left next rest → IsMet es front number.now keys.now rest
now_met inside es front left rest next number keys same order whole is step = record {
  order = subst AreInOrder same order;
  parts = ap (λ (xs : Entries). front ++ xs) (sym (rest_more deref_pair left rest next (number, keys) is step)) ∙ whole;
}

module _ (es front : Entries) (number : ℕ) (keys : Lanes) (rest : Entries) (met : IsMet es front number keys rest) where
  order_of_parts : AreInOrder (front ++ (number, keys) ∷ rest)
  order_of_parts = subst AreInOrder (sym met.parts) met.order

  none_front : (n : ℕ) → number ≤ n → find front n ≡ None
  none_front n le = lower front number n (all_lower front (number, keys) rest order_of_parts) le

  -- the number has its page
  pub met_page : find es number ≡ Some keys
  met_page =
      ap (λ (xs : Entries). find xs number) (sym met.parts) ∙ following front ((number, keys) ∷ rest) number (none_front number (omega arith))
      ∙ found (number, keys) rest number refl

  -- the pages before this one have no block from it on
  pub unmet : (b : ℕ) → number ≤ b / 64 → at front b ≡ 0
  unmet b le = at_is front b ∙ ap (λ o. lanes_of o (b % 64)) (none_front (b / 64) le)

  -- each block of a lower page has the key that the pages before this one have
  pub met_below : (b : ℕ) → b / 64 < number → at es b ≡ at front b
  met_below b lt =
      let none : find ((number, keys) ∷ rest) (b / 64) ≡ None =
      passed (number, keys) rest (b / 64) (λ is. absurd (omega arith)) ∙ higher rest number (b / 64) (all_higher front (number, keys) rest order_of_parts) (omega arith) in
      ap (λ (xs : Entries). at xs b) (sym met.parts) ∙ at_is (front ++ (number, keys) ∷ rest) b
      ∙ ap (λ o. lanes_of o (b % 64)) (only_front front ((number, keys) ∷ rest) (b / 64) none) ∙ sym (at_is front b)

  -- the page's blocks have its keys
  pub met_at : (b : ℕ) → b / 64 ≡ number → at es b ≡ slice_index keys (b % 64)
  met_at b is = at_is es b ∙ ap (λ n. lanes_of (find es n) (b % 64)) is ∙ ap (λ o. lanes_of o (b % 64)) met_page

  -- with this page added, the prefix has one page more
  pub met_more : (front ++ (number, keys) ∷ []) ++ rest ≡ es
  met_more = append_assoc front ((number, keys) ∷ []) rest ∙ met.parts

  pub front_at : (b : ℕ) → b / 64 ≡ number → at (front ++ (number, keys) ∷ []) b ≡ slice_index keys (b % 64)
  front_at b is =
      at_is (front ++ (number, keys) ∷ []) b
      ∙ ap (λ o. lanes_of o (b % 64)) (following front ((number, keys) ∷ []) (b / 64) (none_front (b / 64) (omega arith)) ∙ found (number, keys) [] (b / 64) is)

  pub front_else : (b : ℕ) → (b / 64 ≡ number → ⊥) → at (front ++ (number, keys) ∷ []) b ≡ at front b
  front_else b ne =
      at_is (front ++ (number, keys) ∷ []) b
      ∙ ap (λ o. lanes_of o (b % 64)) (only_front front ((number, keys) ∷ []) (b / 64) (passed (number, keys) [] (b / 64) ne)) ∙ sym (at_is front b)

  pub front_more : IsSame (at (front ++ (number, keys) ∷ [])) (join (at front) (paged number (slice_index keys)))
  front_more b = go (cases_eq (b / 64) number)
    where
      more : Entries
      more = front ++ (number, keys) ∷ []

      go : (b / 64 ≡ number) ⊎ (b / 64 ≡ number → ⊥) → at more b ≡ max (at front b) (paged number (slice_index keys) b)
      go (inl is) =
          let was : at front b ≡ 0 = unmet b (omega arith) in
          let now = front_at b is in
          let e = paged_here number (slice_index keys) b is in
          grind arith
      go (inr ne) =
          let now = front_else b ne in
          let e = paged_else number (slice_index keys) b ne in
          grind arith
