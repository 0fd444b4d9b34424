-- The first bytes of units: what a place, a row, a site and a slot hold of them.
use Rattle.std.proofs.Common.{◌≡◌, ℕ, zero, suc, ◌≤◌, ◌<◌, inl, inr, Bool, true, false, Option, Some, None, List, [], ◌∷◌, length, take, replicate, get_or, refl, sym, ◌∙◌, ap, subst, arith, if◌then◌else◌}
use Rattle.std.specs.Prelude.{slice_get}
use Rattle.std.proofs.lemmas.List.{take-replicate, take_all}
use Rattle.std.proofs.lemmas.Option.{slice_get-map, slice_get-get_or, slice_get_within, same_Some, none-some}
use Rattle.extents.specs.Failures.{Failures}
use Rattle.extents.specs.Units.{AreUnitsSized, fronts}
use Rattle.extent_groups.specs.declared.place.Place.{Place}
use Rattle.extent_groups.specs.Groups.{Groups}
use Rattle.extent_groups.specs.Cells.{Cells, cell, cells, held, front, front_units}
use Rattle.extent_groups.specs.Units.{Site, Pair, InStripe, plus, add, xor_total, put, others, or_else, held_in, row_of, unit_at, unit_in, site_of}
use Rattle.extent_groups.specs.Calls.{AreSized, HaveFronts, HaveRoom, NoPlace, KeepsDrives}
use Rattle.extent_groups.specs.Stores.{unit_bytes, unit_of, IsBuffer, AreDrives}
use Rattle.extent_groups.proofs.Places.{same_or_not}
use Rattle.extent_groups.proofs.Totals.{Row, put_same, put_other, put_sized, total_sized}
use Rattle.extent_groups.proofs.Fading.{row_sized}
use Rattle.extent_groups.proofs.DriveCalls.{cells_sized}
use Rattle.extent_groups.proofs.Losses.{site_same}
use Rattle.extent_groups.proofs.SlotWrites.{AreSizedCells, unit_at_site}
use Rattle.extent_groups.proofs.StoreCalls.{sized_cells}

-- a unit that has a prefix exists
pub front_some : (n : ℕ) (o : Option (List ℕ)) (bytes : List ℕ) → front n o ≡ Some bytes → (unit : List ℕ) × (o ≡ Some unit) × (take n unit ≡ bytes)
front_some n None bytes e = absurd (none-some bytes e)
front_some n (Some u) bytes e = (u, refl, same_Some _ _ e)

-- a prefix as long as the unit is the unit
front_whole : (n : ℕ) (o : Option (List ℕ)) → ((u : List ℕ) → o ≡ Some u → length u ≡ n) → front n o ≡ o
front_whole n None h = refl
front_whole n (Some u) h = ap (λ v. Some v) (let long = h u refl in take_all n u (omega (arith, long)))

-- ---- places

front_of_cell : (n : ℕ) (us : List (List ℕ)) (b : Bool) (at : ℕ) → (if b then None else slice_get (fronts n us) at) ≡ front n (if b then None else slice_get us at)
front_of_cell n us true at = refl
front_of_cell n us false at = slice_get-map (take n) us at

front_cell : {D : Type 0} (n : ℕ) (units : D → List (List ℕ)) (lost : D → Bool) (o : Option D) (at : ℕ) → cell (front_units n units) lost o at ≡ front n (cell units lost o at)
front_cell n units lost None at = refl
front_cell n units lost (Some x) at = front_of_cell n (units x) (lost x) at

pub front_held : {D : Type 0} (n : ℕ) (units : D → List (List ℕ)) (lost : D → Bool) (ds : List D) (p : Place)
    → held (cells (front_units n units) lost ds) p ≡ front n (held (cells units lost ds) p)
front_held n units lost ds p = front_cell n units lost (slice_get ds p.drive) p.address

-- where units have n bytes, their prefixes of n bytes are the units
pub whole_held : {D : Type 0} (n : ℕ) (units : D → List (List ℕ)) (lost : D → Bool) (ds : List D) → AreSized units n ds → (p : Place)
    → held (cells (front_units n units) lost ds) p ≡ held (cells units lost ds) p
whole_held n units lost ds sized p = front_held n units lost ds p ∙ front_whole n (held (cells units lost ds) p) (cells_sized units lost n ds sized p)

pub whole_site : {D : Type 0} (n : ℕ) (units : D → List (List ℕ)) (lost : D → Bool) (ds : List D) → AreSized units n ds → (t : Site)
    → unit_at n (cells (front_units n units) lost ds) t ≡ unit_at n (cells units lost ds) t
whole_site n units lost ds sized t =
    (site_same n (cells units lost ds) (cells (front_units n units) lost ds) t (λ x of. whole_held n units lost ds sized x)).0

-- ---- sums

front_plus : (n : ℕ) (u v : List ℕ) → take n (plus u v) ≡ plus (take n u) (take n v)
front_plus zero u v = refl
front_plus (suc n) [] v = refl
front_plus (suc n) (x ∷ u) [] = refl
front_plus (suc n) (x ∷ u) (y ∷ v) = rw (front_plus n u v) refl

front_add : (n : ℕ) (a b : Option (List ℕ)) → add (front n a) (front n b) ≡ front n (add a b)
front_add n None b = refl
front_add n (Some u) None = refl
front_add n (Some u) (Some v) = ap (λ w. Some w) (sym (front_plus n u v))

front_total : (n b m : ℕ) (r s : Row) → n ≤ b → ((k : ℕ) → s k ≡ front n (r k)) → xor_total n m s ≡ front n (xor_total b m r)
front_total n b zero r s h e = ap (λ u. Some u) (sym (take-replicate n b 0 h))
front_total n b (suc m) r s h e =
    ap (λ x. add x (xor_total n m s)) (e m) ∙ ap (add (front n (r m))) (front_total n b m r s h e) ∙ front_add n (r m) (xor_total b m r)

front_put : (n b i : ℕ) (r s : Row) → n ≤ b → ((k : ℕ) → s k ≡ front n (r k)) → (k : ℕ)
    → put s i (Some (replicate n 0)) k ≡ front n (put r i (Some (replicate b 0)) k)
front_put n b i r s h e k = elim (same_or_not k i) [
  | inl q ↦
      ap (put s i (Some (replicate n 0))) q ∙ put_same s i (Some (replicate n 0)) ∙ ap (λ u. Some u) (sym (take-replicate n b 0 h))
      ∙ ap (front n) (sym (put_same r i (Some (replicate b 0)))) ∙ ap (λ j. front n (put r i (Some (replicate b 0)) j)) (sym q)
  | inr ne ↦ put_other s i k (Some (replicate n 0)) ne ∙ e k ∙ ap (front n) (sym (put_other r i k (Some (replicate b 0)) ne))
]

-- ---- sites

front_or : (n : ℕ) (a b : Option (List ℕ)) → or_else (front n a) (front n b) ≡ front n (or_else a b)
front_or n None b = refl
front_or n (Some u) b = refl

front_member : (n : ℕ) (c f : Cells) → ((p : Place) → held f p ≡ front n (held c p)) → (o : Option Place) → held_in f o ≡ front n (held_in c o)
front_member n c f e None = refl
front_member n c f e (Some p) = e p

-- the prefix of a site's unit is the site's unit over the prefixes
front_unit : (n b : ℕ) (c f : Cells) → n ≤ b → ((p : Place) → held f p ≡ front n (held c p)) → (t : Site) → unit_at n f t ≡ front n (unit_at b c t)
front_unit n b c f h e (Pair p q) = ap (λ x. or_else x (held f q)) (e p) ∙ ap (or_else (front n (held c p))) (e q) ∙ front_or n (held c p) (held c q)
front_unit n b c f h e (InStripe places parity i) =
    let member : (k : ℕ) → row_of f places k ≡ front n (row_of c places k) = λ k. front_member n c f e (slice_get places k) in
    ap (λ x. or_else x (others n (length places) (row_of f places) i)) (member i)
    ∙ ap (or_else (front n (row_of c places i)))
    (front_total n b (length places) (put (row_of c places) i (Some (replicate b 0))) (put (row_of f places) i (Some (replicate n 0))) h (front_put n b i (row_of c places) (row_of f places) h member))
    ∙ front_or n (row_of c places i) (others b (length places) (row_of c places) i)

-- ---- slots

-- the prefix of a slot's unit is the unit of its site over the prefixes
pub slot_front : {D : Type 0} (units : D → List (List ℕ)) (lost : D → Bool) (ds : List D) (t : Groups) (slot : ℕ) (site : Site) (n : ℕ) (a : Option (List ℕ))
    → site_of t slot ≡ Some site → n ≤ unit_bytes t → unit_at n (cells (front_units n units) lost ds) site ≡ a → front n (unit_of t (cells units lost ds) slot) ≡ a
slot_front units lost ds t slot site n a at short e =
    ap (front n) (unit_at_site t (cells units lost ds) slot site at)
    ∙ sym (front_unit n (unit_bytes t) (cells units lost ds) (cells (front_units n units) lost ds) short (front_held n units lost ds) site)
    ∙ e

first_sized : (n : ℕ) (a b : Option (List ℕ)) → ((u : List ℕ) → a ≡ Some u → length u ≡ n) → ((u : List ℕ) → b ≡ Some u → length u ≡ n)
    → (u : List ℕ) → or_else a b ≡ Some u → length u ≡ n
first_sized n None b one two u e = two u e
first_sized n (Some v) b one two u e = one u e

site_sized : (n : ℕ) (c : Cells) → AreSizedCells n c → (t : Site) (u : List ℕ) → unit_at n c t ≡ Some u → length u ≡ n
site_sized n c sized (Pair p q) = first_sized n (held c p) (held c q) (sized p) (sized q)
site_sized n c sized (InStripe places parity i) =
    let row = row_sized n c places sized in
    first_sized n (row_of c places i) (others n (length places) (row_of c places) i) (row i)
    (total_sized n (length places) (put (row_of c places) i (Some (replicate n 0))) (put_sized n i (row_of c places) row))

unit_sized : (n : ℕ) (c : Cells) → AreSizedCells n c → (o : Option Site) (u : List ℕ) → unit_in n c o ≡ Some u → length u ≡ n
unit_sized n c sized None u e = absurd (none-some u e)
unit_sized n c sized (Some t) u e = site_sized n c sized t u e

-- the first n bytes are the unit, where n is a unit's size
pub slot_whole : {D : Type 0} (units : D → List (List ℕ)) (lost : D → Bool) (ds : List D) (t : Groups) (slot n : ℕ) (a : Option (List ℕ))
    → AreDrives units t ds → n ≡ unit_bytes t → front n (unit_of t (cells units lost ds) slot) ≡ a → unit_of t (cells units lost ds) slot ≡ a
slot_whole units lost ds t slot n a are same e =
    sym (front_whole n (unit_of t (cells units lost ds) slot) (λ u is. unit_sized (unit_bytes t) (cells units lost ds) (sized_cells units lost t ds are) (site_of t slot) u is ∙ sym same)) ∙ e

-- ---- drives

-- units of m bytes have prefixes of each length up to m
pub have_fronts : {D : Type 0} (units : D → List (List ℕ)) (n m : ℕ) (ds : List D) → n ≤ m → AreSized units m ds → HaveFronts units n ds
have_fronts units n m ds h sized d x there at u is = omega (arith, h, sized d x there at u is)

-- after reads, units still have prefixes of this length
pub keeps_fronts : {D : Type 0} {units : D → List (List ℕ)} {lost : D → Bool} {failures : D → Failures} {a b : List D} {n : ℕ}
    → KeepsDrives units lost failures NoPlace a b → HaveFronts units n a → HaveFronts units n b
keeps_fronts {D = D} {a = a} keeps have d y there at u is =
    let within : d < length a = omega (arith, slice_get_within _ d y there, keeps.many) in
    let x : D = get_or a d y in
    let was = slice_get-get_or a d y within in
    have d x was at u (sym ((keeps.each d x y was there).elsewhere at (λ never. never)) ∙ is)

-- a buffer for units of one length serves on all drives
pub have_room : {D : Type 0} (units : D → List (List ℕ)) (bytes count scratch : ℕ) (ds : List D) → IsBuffer bytes count scratch → AreSized units bytes ds → HaveRoom units count scratch ds
have_room units bytes count scratch ds (inl same) sized d x there = inl (subst (λ n. AreUnitsSized n (units x)) (sym same) (sized d x there))
have_room units bytes count scratch ds (inr whole) sized d x there = inr (whole.0, subst (λ n. AreUnitsSized n (units x)) (sym whole.1) (sized d x there))

-- and it does after calls
pub keeps_room : {D : Type 0} {units : D → List (List ℕ)} {lost : D → Bool} {failures : D → Failures} {touched : Place → Type 0} {a b : List D} {count scratch n m : ℕ}
    → KeepsDrives units lost failures touched a b → n ≡ count → m ≡ scratch → HaveRoom units count scratch a → HaveRoom units n m b
keeps_room {D = D} {units = units} {a = a} {scratch = scratch} keeps short long room d y there =
    let within : d < length a = omega (arith, slice_get_within _ d y there, keeps.many) in
    let x : D = get_or a d y in
    let was = slice_get-get_or a d y within in
    let sizes : (bytes : ℕ) → AreUnitsSized bytes (units x) → AreUnitsSized bytes (units y) = (keeps.each d x y was there).sizes in
    elim (room d x was) [
      | inl sized ↦ inl (subst (λ k. AreUnitsSized k (units y)) (sym long) (sizes scratch sized))
      | inr whole ↦ inr (long ∙ whole.0, subst (λ k. AreUnitsSized k (units y)) (sym short) (sizes _ whole.1))
    ]
