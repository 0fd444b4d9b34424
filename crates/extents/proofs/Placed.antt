-- Units that are kept by their places: one of them, a write over a kept one, and a first write.
use Rattle.std.proofs.Common.{◌≡◌, ◌≢◌, ℕ, zero, suc, ◌+◌, ◌-◌, ◌*◌, ◌≤◌, ◌<◌, Some, List, [], ◌∷◌, ◌++◌, length, take, drop, set, get_or, map, replicate, refl, sym, ◌∙◌, ap, subst, arith, length-drop, ◌⊎◌, inl, inr}
use Rattle.std.proofs.Math.Seq.{get_or-append_seam, take-length}
use Rattle.std.specs.Prelude.{slice_get, slice_set, option_map}
use Rattle.std.proofs.lemmas.List.{take-take, take-replicate, take-append-le, drop-append-le, length-map, map-set, length-replicate, get_or_append_left, get_or-set_same, get_or-set_other, length-set, set-get_or, length-append}
use Rattle.std.proofs.lemmas.Option.{slice_get-map, slice_get-get_or, slice_get_within, same_Some}
use Rattle.std.proofs.lemmas.Bool.{cases_eq}
use Rattle.extents.specs.Units.{AreUnitsSized, HaveFront, fronts, units_in, zero_units}
use Rattle.extents.specs.Thin.{thin_unit, units_of, blanks, IsThin}
use Rattle.extents.proofs.Fronts.{have_whole}
use Rattle.extents.proofs.UnitsIn.{length-units_in, get-units_in, sized_units_in, units_in-written, unit_within}

-- ---- maps along a list of places

-- two functions that agree on each place give the same units
same_map : (f g : ℕ → List ℕ) (xs : List ℕ) → ((j : ℕ) → j < length xs → g (get_or xs j 0) ≡ f (get_or xs j 0)) → map g xs ≡ map f xs
same_map f g [] h = refl
same_map f g (x ∷ xs) h =
    let first : g x ≡ f x = h 0 (omega arith) in
    rw (first, same_map f g xs (λ j below. h (suc j) (omega arith))) refl

-- two functions that agree on each place but one
map_but_one : (f g : ℕ → List ℕ) (xs : List ℕ) (at : ℕ) (u : List ℕ) → at < length xs → g (get_or xs at 0) ≡ u
    → ((j : ℕ) → j < length xs → j ≢ at → g (get_or xs j 0) ≡ f (get_or xs j 0)) → map g xs ≡ set (map f xs) at u
map_but_one f g [] at u h e others = absurd (omega arith)
map_but_one f g (x ∷ xs) zero u h e others =
    let first : g x ≡ u = e in
    rw (first, same_map f g xs (λ j below. others (suc j) (omega arith) (λ same. absurd (omega (arith, same))))) refl
map_but_one f g (x ∷ xs) (suc at) u h e others =
    let first : g x ≡ f x = others 0 (omega arith) (λ same. absurd (omega (arith, same))) in
    let rest = map_but_one f g xs at u (omega arith) e (λ j below apart. others (suc j) (omega arith) (λ same. apart (let same_before : j ≡ at = omega (arith, same) in same_before))) in
    rw (first, rest) refl

-- ---- kept units

-- one unit more after the others
pub units_in-more : (size count : ℕ) (bytes unit : List ℕ) → length bytes ≡ count * size → length unit ≡ size
    → units_in size (suc count) (bytes ++ unit) ≡ units_in size count bytes ++ unit ∷ []
units_in-more size zero [] unit l e = ap (λ u. u ∷ []) (all_of unit size e)
  where
    all_of : (xs : List ℕ) (n : ℕ) → length xs ≡ n → take n xs ≡ xs
    all_of [] zero e = refl
    all_of [] (suc n) e = refl
    all_of (x ∷ xs) zero e = absurd (omega arith)
    all_of (x ∷ xs) (suc n) e = ap (λ r. x ∷ r) (all_of xs n (omega arith))
units_in-more size zero (b ∷ bytes) unit l e = absurd (omega arith)
units_in-more size (suc count) bytes unit l e =
    let fits : size ≤ length bytes = omega arith in
    let left : length (drop size bytes) ≡ count * size = omega (arith, length-drop size bytes) in
    rw (take-append-le size bytes unit fits, drop-append-le size bytes unit fits, units_in-more size count (drop size bytes) unit left e) refl

-- a place that is 0 or of a kept unit
abbrev IsIn : ℕ → ℕ → Type 0
IsIn stored place = (number : ℕ) → place ≡ suc number → number < stored

-- the unit of such a place has the size
sized_unit : (size stored place : ℕ) (bytes : List ℕ) → length bytes ≡ stored * size → IsIn stored place → length (thin_unit size (units_in size stored bytes) place) ≡ size
sized_unit size stored zero bytes l h = length-replicate size 0
sized_unit size stored (suc number) bytes l h =
    let inside : number < length (units_in size stored bytes) = subst (λ n. number < n) (sym (length-units_in size stored bytes)) (h number refl) in
    sized_units_in size stored bytes (omega arith) number _ (slice_get-get_or (units_in size stored bytes) number [] inside)

-- ---- blank places

-- where a place is blank, at least one is counted as blank
some_blank : (places : List ℕ) (at : ℕ) → at < length places → get_or places at 0 ≡ 0 → 1 ≤ blanks places
some_blank [] at h e = absurd (omega arith)
some_blank (zero ∷ places) zero h e = omega arith
some_blank (suc p ∷ places) zero h e = absurd (let two : suc p ≡ 0 = e in omega (arith, two))
some_blank (zero ∷ places) (suc at) h e = omega arith
some_blank (suc p ∷ places) (suc at) h e = some_blank places at (omega arith) e

-- one that gets a kept unit is blank no more
blank_less : (places : List ℕ) (at stored : ℕ) → at < length places → get_or places at 0 ≡ 0 → suc (blanks (set places at (suc stored))) ≡ blanks places
blank_less [] at stored h e = absurd (omega arith)
blank_less (zero ∷ places) zero stored h e = refl
blank_less (suc p ∷ places) zero stored h e = absurd (let two : suc p ≡ 0 = e in omega (arith, two))
blank_less (zero ∷ places) (suc at) stored h e = ap suc (blank_less places at stored (omega arith) e)
blank_less (suc p ∷ places) (suc at) stored h e = blank_less places at stored (omega arith) e

-- places that are all blank
all_blank : (n : ℕ) → blanks (replicate n 0) ≡ n
all_blank zero = refl
all_blank (suc n) = ap suc (all_blank n)

-- and the units of them
pub zeros_of : (size n : ℕ) (bytes : List ℕ) → units_of size 0 bytes (replicate n 0) ≡ zero_units size n
zeros_of size zero bytes = refl
zeros_of size (suc n) bytes = ap (λ units. replicate size 0 ∷ units) (zeros_of size n bytes)

-- none is of a kept unit
none_kept : (n at number : ℕ) → get_or (replicate n 0) at 0 ≡ suc number → ⊥
none_kept zero at number e = absurd (let two : 0 ≡ suc number = e in omega (arith, two))
none_kept (suc n) zero number e = absurd (let two : 0 ≡ suc number = e in omega (arith, two))
none_kept (suc n) (suc at) number e = none_kept n at number e

-- as they are at first
pub thin_first : (size count capacity : ℕ) → size ≤ 131072 → count * size ≤ capacity → IsThin size count 0 capacity [] (replicate count 0)
thin_first size count capacity small room = record {
  small = small;
  many = length-replicate count 0;
  whole = omega arith;
  room = room;
  spare = omega (arith, all_blank count);
  below = λ at number e. absurd (none_kept count at number e);
  apart = λ at by number e. absurd (none_kept count at number e);
}

-- ---- the units of places

module _ {size count stored capacity : ℕ} {bytes places : List ℕ} (thin : IsThin size count stored capacity bytes places) where
  -- one of them is the unit of its place
  pub unit_at : (at : ℕ) → at < length places → slice_get (units_of size stored bytes places) at ≡ Some (thin_unit size (units_in size stored bytes) (get_or places at 0))
  unit_at at h =
      slice_get-map (thin_unit size (units_in size stored bytes)) places at
      ∙ ap (option_map (thin_unit size (units_in size stored bytes))) (slice_get-get_or places at 0 h)

  -- what fits each unit has the drive's size, and the address is one of the drive's
  pub fitting : (m at : ℕ) → at < length (units_of size stored bytes places) → AreUnitsSized m (units_of size stored bytes places) → (m ≡ size) × (at < length places)
  fitting m at h sized =
      let inside : at < length places = omega (arith, h, length-map places (thin_unit size (units_in size stored bytes))) in
      (sym (sized at _ (unit_at at inside)) ∙ sized_unit size stored (get_or places at 0) bytes thin.whole (thin.below at), inside)

  -- what the table of places says of a unit whose first bytes are asked for
  pub found_front : (units : List (List ℕ)) (n at place : ℕ) → units_of size stored bytes places ≡ units → at < length units → HaveFront n units → place ≡ get_or places at place
      → (n ≤ size) × (at < length places) × (get_or places at 0 ≡ place)
  found_front units n at place reported h have e =
      let inside : at < length places = omega (arith, h, ap length reported, length-map places (thin_unit size (units_in size stored bytes))) in
      let short : n ≤ length (thin_unit size (units_in size stored bytes) (get_or places at 0)) = have at _ (subst (λ us. slice_get us at ≡ Some (thin_unit size (units_in size stored bytes) (get_or places at 0))) reported (unit_at at inside)) in (
        subst (λ m. n ≤ m) (sized_unit size stored (get_or places at 0) bytes thin.whole (thin.below at)) short,
        inside,
        same_Some _ _ (sym (slice_get-get_or places at 0 inside) ∙ slice_get-get_or places at place inside) ∙ sym e,
      )

  -- what it says of a whole unit
  pub found : (units : List (List ℕ)) (m at place : ℕ) → units_of size stored bytes places ≡ units → at < length units → AreUnitsSized m units → place ≡ get_or places at place
      → (m ≡ size) × (at < length places) × (get_or places at 0 ≡ place)
  found units m at place reported h are e =
      let fits = fitting m at (subst (λ us. at < length us) (sym reported) h) (subst (AreUnitsSized m) (sym reported) are) in
      let front = found_front units m at place reported h (have_whole m units are) e in
      (fits.0, front.1, front.2)

  -- each has the size
  pub sized : AreUnitsSized size (units_of size stored bytes places)
  sized at unit there =
      let inside : at < length places = omega (arith, slice_get_within (units_of size stored bytes places) at unit there, length-map places (thin_unit size (units_in size stored bytes))) in
      let same : unit ≡ thin_unit size (units_in size stored bytes) (get_or places at 0) = same_Some _ _ (sym there ∙ unit_at at inside) in
      ap length same ∙ sized_unit size stored (get_or places at 0) bytes thin.whole (thin.below at)

  -- the bytes of a kept unit lie within those of all
  pub kept_within : (at number : ℕ) → get_or places at 0 ≡ suc number → number * size + size ≤ length bytes
  kept_within at number e = omega (arith, thin.whole, unit_within size stored number (thin.below at number e))

  -- a kept unit is its run of bytes
  pub kept_unit : (at number : ℕ) → at < length places → get_or places at 0 ≡ suc number
      → slice_get (units_of size stored bytes places) at ≡ Some (take size (drop (number * size) bytes))
  kept_unit at number h e =
      let below = thin.below at number e in
      let inside : number < length (units_in size stored bytes) = subst (λ n. number < n) (sym (length-units_in size stored bytes)) below in
      unit_at at h
      ∙ ap (λ place. Some (thin_unit size (units_in size stored bytes) place)) e
      ∙ sym (slice_get-get_or (units_in size stored bytes) number [] inside)
      ∙ get-units_in size stored number (number * size) bytes below refl

  -- a unit that isn't kept is zeros
  pub blank_unit : (at : ℕ) → at < length places → get_or places at 0 ≡ 0 → slice_get (units_of size stored bytes places) at ≡ Some (replicate size 0)
  blank_unit at h e = unit_at at h ∙ ap (λ place. Some (thin_unit size (units_in size stored bytes) place)) e

  -- the first bytes of a kept unit
  pub kept_front : (n at number : ℕ) → n ≤ size → at < length places → get_or places at 0 ≡ suc number
      → slice_get (fronts n (units_of size stored bytes places)) at ≡ Some (take n (drop (number * size) bytes))
  kept_front n at number short h e =
      slice_get-map (take n) (units_of size stored bytes places) at
      ∙ ap (option_map (take n)) (kept_unit at number h e)
      ∙ ap Some (take-take n size (drop (number * size) bytes) short)

  -- and of one that isn't kept
  pub blank_front : (n at : ℕ) → n ≤ size → at < length places → get_or places at 0 ≡ 0
      → slice_get (fronts n (units_of size stored bytes places)) at ≡ Some (replicate n 0)
  blank_front n at short h e =
      slice_get-map (take n) (units_of size stored bytes places) at
      ∙ ap (option_map (take n)) (blank_unit at h e)
      ∙ ap Some (take-replicate n size 0 short)

  -- a write over a kept unit
  pub written_over : (at number start : ℕ) (unit : List ℕ) → at < length places → get_or places at 0 ≡ suc number → start ≡ number * size → length unit ≡ size
      → units_of size stored (take start bytes ++ (unit ++ drop (start + length unit) bytes)) places ≡ slice_set (units_of size stored bytes places) at unit
  written_over at number start unit h e s l =
      let below = thin.below at number e in
      let kept = units_in size stored bytes in
      let inside : number < length kept = subst (λ n. number < n) (sym (length-units_in size stored bytes)) below in
      let now : units_in size stored (take start bytes ++ (unit ++ drop (start + length unit) bytes)) ≡ set kept number unit =
      units_in-written size stored number start bytes unit below s (omega (arith, thin.whole)) l in
      ap (λ k. map (thin_unit size k) places) now
      ∙ map_but_one (thin_unit size kept) (thin_unit size (set kept number unit)) places at unit h
      (ap (thin_unit size (set kept number unit)) e ∙ get_or-set_same kept number unit [] inside)
      (λ j within other. at_other j (get_or places j 0) refl other)
    where
      at_other : (j place : ℕ) → get_or places j 0 ≡ place → j ≢ at
          → thin_unit size (set (units_in size stored bytes) number unit) place ≡ thin_unit size (units_in size stored bytes) place
      at_other j zero p other = refl
      at_other j (suc there) p other =
          get_or-set_other (units_in size stored bytes) number there unit []
          (λ same. other (thin.apart j at number (p ∙ ap suc same) e))

  -- zeros written to a unit that isn't kept change nothing
  pub left_blank : (at : ℕ) → get_or places at 0 ≡ 0 → units_of size stored bytes places ≡ slice_set (units_of size stored bytes places) at (replicate size 0)
  left_blank at e =
      sym (ap (λ p. set (units_of size stored bytes places) at (thin_unit size (units_in size stored bytes) p)) (sym e)
      ∙ sym (map-set (thin_unit size (units_in size stored bytes)) places at (get_or places at 0))
      ∙ ap (map (thin_unit size (units_in size stored bytes))) (set-get_or places at 0))

  -- a first write
  pub written_first : (at : ℕ) (unit : List ℕ) → at < length places → get_or places at 0 ≡ 0 → length unit ≡ size
      → units_of size (suc stored) (bytes ++ unit) (slice_set places at (suc stored)) ≡ slice_set (units_of size stored bytes places) at unit
  written_first at unit h e l =
      let kept = units_in size stored bytes in
      let now : units_in size (suc stored) (bytes ++ unit) ≡ kept ++ unit ∷ [] = units_in-more size stored bytes unit thin.whole l in
      let last : get_or (kept ++ unit ∷ []) stored [] ≡ unit =
      subst (λ n. get_or (kept ++ unit ∷ []) n [] ≡ unit) (length-units_in size stored bytes) (get_or-append_seam kept unit [] []) in
      ap (λ k. map (thin_unit size k) (set places at (suc stored))) now
      ∙ map-set (thin_unit size (kept ++ unit ∷ [])) places at (suc stored)
      ∙ ap (λ u. set (map (thin_unit size (kept ++ unit ∷ [])) places) at u) last
      ∙ ap (λ us. set us at unit) (same_map (thin_unit size kept) (thin_unit size (kept ++ unit ∷ [])) places (λ j within. at_all (get_or places j 0) (thin.below j)))
    where
      at_all : (place : ℕ) → IsIn stored place
          → thin_unit size (units_in size stored bytes ++ unit ∷ []) place ≡ thin_unit size (units_in size stored bytes) place
      at_all zero below = refl
      at_all (suc there) below =
          get_or_append_left (units_in size stored bytes) (unit ∷ []) [] there
          (subst (λ n. there < n) (sym (length-units_in size stored bytes)) (below there refl))

  -- where a unit isn't kept fewer are kept than there are
  pub one_more : (at : ℕ) → at < length places → get_or places at 0 ≡ 0 → suc stored ≤ count
  one_more at h e = omega (arith, thin.spare, some_blank places at h e)

  -- and so there is room for it
  pub with_room : (at : ℕ) → at < length places → get_or places at 0 ≡ 0 → stored * size + size ≤ capacity
  with_room at h e = omega (arith, thin.room, unit_within size count stored (one_more at h e))

  -- the places with a first write
  pub thin_more : (at capacity_now : ℕ) (unit : List ℕ) → at < length places → get_or places at 0 ≡ 0 → length unit ≡ size → capacity ≤ capacity_now
      → IsThin size count (suc stored) capacity_now (bytes ++ unit) (slice_set places at (suc stored))
  thin_more at capacity_now unit h e l more = record {
    small = thin.small;
    many = length-set places at (suc stored) ∙ thin.many;
    whole = omega (arith, thin.whole, l, length-append bytes unit);
    room = omega (arith, thin.room, more);
    spare = omega (arith, thin.spare, blank_less places at (stored) h e);
    below = λ by number p. below_set by number p (by_at by);
    apart = λ one other number p q. apart_set one other number p q (by_at one) (by_at other);
  }
    where
      by_at : (by : ℕ) → (by ≡ at) ⊎ (by ≢ at)
      by_at by = cases_eq by at

      below_set : (by number : ℕ) → get_or (set places at (suc stored)) by 0 ≡ suc number → ((by ≡ at) ⊎ (by ≢ at)) → number < suc stored
      below_set by number p (inl same) =
          let here : suc stored ≡ suc number = sym (ap (λ n. get_or (set places at (suc stored)) n 0) same ∙ get_or-set_same places at (suc stored) 0 h) ∙ p in
          omega (arith, here)
      below_set by number p (inr other) =
          let lower = thin.below by number (sym (get_or-set_other places at by (suc stored) 0 other) ∙ p) in omega (arith, lower)

      apart_set : (one other number : ℕ) → get_or (set places at (suc stored)) one 0 ≡ suc number → get_or (set places at (suc stored)) other 0 ≡ suc number
          → ((one ≡ at) ⊎ (one ≢ at)) → ((other ≡ at) ⊎ (other ≢ at)) → one ≡ other
      apart_set one other number p q (inl a) (inl b) = a ∙ sym b
      apart_set one other number p q (inl a) (inr b) =
          let here : suc stored ≡ suc number = sym (ap (λ n. get_or (set places at (suc stored)) n 0) a ∙ get_or-set_same places at (suc stored) 0 h) ∙ p in
          let lower = thin.below other number (sym (get_or-set_other places at other (suc stored) 0 b) ∙ q) in absurd (omega (arith, here, lower))
      apart_set one other number p q (inr a) (inl b) =
          let here : suc stored ≡ suc number = sym (ap (λ n. get_or (set places at (suc stored)) n 0) b ∙ get_or-set_same places at (suc stored) 0 h) ∙ q in
          let lower = thin.below one number (sym (get_or-set_other places at one (suc stored) 0 a) ∙ p) in absurd (omega (arith, here, lower))
      apart_set one other number p q (inr a) (inr b) =
          thin.apart one other number (sym (get_or-set_other places at one (suc stored) 0 a) ∙ p) (sym (get_or-set_other places at other (suc stored) 0 b) ∙ q)

-- a list whose first byte is zero, and whose every byte is the one before it, is all zeros
zeros_along : (x : ℕ) (xs : List ℕ) → x ≡ 0 → take (length xs) (x ∷ xs) ≡ xs → (x ∷ xs) ≡ replicate (suc (length xs)) 0
zeros_along x [] e h = ap (λ y. y ∷ []) e
zeros_along x (y ∷ ys) e h =
    let head : x ≡ y = ap (λ l. get_or l 0 0) h in
    let tail : take (length ys) (y ∷ ys) ≡ ys = ap (drop 1) h in
    let rest = zeros_along y ys (sym head ∙ e) tail in
    rw (e, rest) refl

pub zeros_by_shift : (bytes : List ℕ) → get_or bytes 0 0 ≡ 0 → take (length bytes - 1) bytes ≡ take (length bytes - 1) (drop 1 bytes)
    → bytes ≡ replicate (length bytes) 0
zeros_by_shift [] first same = refl
zeros_by_shift (x ∷ xs) first same =
    let one_less : suc (length xs) - 1 ≡ length xs = omega arith in
    let shifted : take (length xs) (x ∷ xs) ≡ take (length xs) xs = subst (λ n. take n (x ∷ xs) ≡ take n xs) one_less same in
    zeros_along x xs first (shifted ∙ take-length xs)
