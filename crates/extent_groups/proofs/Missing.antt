-- A slot has no effective unit exactly where it is lost by the lost drives; and where each group misses at most one member it has one.
use Rattle.std.proofs.Common.{◌≡◌, ◌≢◌, ℕ, zero, suc, ◌/◌, ◌%◌, ◌<◌, ◌≤◌, inl, inr, Bool, true, Option, Some, None, List, length, refl, sym, ◌∙◌, ap, subst, arith, get_or, if◌then◌else◌}
use Rattle.std.specs.Prelude.{slice_get, replicate}
use Rattle.std.proofs.lemmas.Option.{none-some, same_Some, slice_get-get_or, slice_get_within}
use Rattle.extent_groups.specs.declared.class.Member.{Member}
use Rattle.extent_groups.specs.declared.place.Place.{Place}
use Rattle.extent_groups.specs.Groups.{Groups, group_at, members_in, members_of, AreGroups}
use Rattle.extent_groups.specs.Cells.{Cells, cell, cells, held}
use Rattle.extent_groups.specs.Units.{Site, Pair, InStripe, plus, add, xor_total, put, others, or_else, held_in, row_of, unit_at, site_of}
use Rattle.extent_groups.specs.Calls.{IsPlace}
use Rattle.extent_groups.specs.Layout.{IsOf, IsDriveDisjoint}
use Rattle.extent_groups.specs.Stores.{unit_bytes, unit_of, AreDrives}
use Rattle.extent_groups.specs.Missing.{is_missing, missing_of, IsGoneAt, IsGone, MissAtMostOne}
use Rattle.extent_groups.proofs.Totals.{Row, put_same, put_other}
use Rattle.extent_groups.proofs.RowWrites.{both_missing}
use Rattle.extent_groups.proofs.Losses.{none_is_lost}
use Rattle.extent_groups.proofs.LayoutLaw.{layout_law, lies, slot_of}
use Rattle.extent_groups.proofs.Sites.{site_places}
use Rattle.extent_groups.proofs.SlotWrites.{unit_at_site}

none_more : (m : ℕ) (r : Row) (a b : Option (List ℕ)) → r m ≡ a → (b ≡ None → (k : ℕ) × (k < m) × (r k ≡ None)) → add a b ≡ None → (k : ℕ) × (k < suc m) × (r k ≡ None)
none_more m r None b ra later e = (m, omega arith, ra)
none_more m r (Some u) None ra later e = let is = later refl in (is.0, omega (arith, is.1), is.2)
none_more m r (Some u) (Some v) ra later e = absurd (none-some (plus u v) (sym e))

-- an exclusive or that isn't there misses a member
pub total_none : (n m : ℕ) (r : Row) → xor_total n m r ≡ None → (k : ℕ) × (k < m) × (r k ≡ None)
total_none n zero r e = absurd (none-some (replicate n 0) (sym e))
total_none n (suc m) r e = none_more m r (r m) (xor_total n m r) refl (λ f. total_none n m r f) e

pub neither : (a b : Option (List ℕ)) → or_else a b ≡ None → (a ≡ None) × (b ≡ None)
neither None b e = (refl, e)
neither (Some u) b e = absurd (none-some u (sym e))

-- a missing drive holds nothing
pub cell_missing : {D : Type 0} (units : D → List (List ℕ)) (lost : D → Bool) (o : Option D) (at : ℕ) → is_missing lost o ≡ true → cell units lost o at ≡ None
cell_missing units lost None at e = refl
cell_missing units lost (Some x) at e = ap (λ b. if b then None else slice_get (units x) at) e

-- and a place that holds nothing is on a missing drive
pub missing_if : {D : Type 0} (units : D → List (List ℕ)) (lost : D → Bool) (ds : List D) (p : Place) → IsPlace units ds p → held (cells units lost ds) p ≡ None → missing_of lost ds p.drive ≡ true
missing_if {D = D} units lost ds p is gone = at (slice_get ds p.drive) refl where
  at : (o : Option D) → slice_get ds p.drive ≡ o → is_missing lost (slice_get ds p.drive) ≡ true
  at None e = ap (is_missing lost) e
  at (Some x) e = ap (is_missing lost) e ∙ none_is_lost units lost ds p x is e gone

-- a site without an effective unit is lost
gone_at : {D : Type 0} (units : D → List (List ℕ)) (lost : D → Bool) (ds : List D) (n : ℕ) (site : Site) → IsDriveDisjoint site → ((x : Place) → IsOf site x → IsPlace units ds x)
    → unit_at n (cells units lost ds) site ≡ None → IsGoneAt (missing_of lost ds) site
gone_at units lost ds n (Pair p q) whole place e =
    let both = neither (held (cells units lost ds) p) (held (cells units lost ds) q) e in
    (missing_if units lost ds p (place p (inl refl)) both.0, missing_if units lost ds q (place q (inr refl)) both.1)
gone_at units lost ds n (InStripe row parity i) whole place e =
    let c : Cells = cells units lost ds in
    let blank : Option (List ℕ) = Some (replicate n 0) in
    let any : Place = record { drive = 0; address = 0 } in
    let both = neither (row_of c row i) (others n (length row) (row_of c row) i) e in
    let k = total_none n (length row) (put (row_of c row) i blank) both.1 in
    let apart : k.0 ≢ i = λ q. none-some (replicate n 0) (sym k.2 ∙ ap (put (row_of c row) i blank) q ∙ put_same (row_of c row) i blank) in
    let here = slice_get-get_or row i any whole.0 in
    let there = slice_get-get_or row k.0 any k.1 in (
      (get_or row i any, here, missing_if units lost ds (get_or row i any) (place (get_or row i any) (i, here)) (sym (ap (held_in c) here) ∙ both.0)),
      (
        k.0,
        get_or row k.0 any,
        apart,
        there,
        missing_if units lost ds (get_or row k.0 any) (place (get_or row k.0 any) (k.0, there)) (sym (ap (held_in c) there) ∙ sym (put_other (row_of c row) i k.0 blank apart) ∙ k.2),
      ),
    )

-- a site that is lost has no effective unit
pub gone_holds : {D : Type 0} (units : D → List (List ℕ)) (lost : D → Bool) (ds : List D) (n : ℕ) (site : Site) → IsGoneAt (missing_of lost ds) site → unit_at n (cells units lost ds) site ≡ None
gone_holds units lost ds n (Pair p q) gone =
    ap (λ a. or_else a (held (cells units lost ds) q)) (cell_missing units lost (slice_get ds p.drive) p.address gone.0) ∙ cell_missing units lost (slice_get ds q.drive) q.address gone.1
gone_holds units lost ds n (InStripe row parity i) gone =
    let c : Cells = cells units lost ds in
    let own = gone.0 in
    let other = gone.1 in
    both_missing n (length row) i other.0 (row_of c row) (slice_get_within row other.0 other.1 other.3) other.2
    (ap (held_in c) own.1 ∙ cell_missing units lost (slice_get ds own.0.drive) own.0.address own.2)
    (ap (held_in c) other.3 ∙ cell_missing units lost (slice_get ds other.1.drive) other.1.address other.4)

-- a slot of a made group has no effective unit exactly where it is lost
pub gone_law : {D : Type 0} (units : D → List (List ℕ)) (lost : D → Bool) (t : Groups) (ds : List D) (slot : ℕ) (site : Site) → AreGroups t → AreDrives units t ds → site_of t slot ≡ Some site
    → (unit_of t (cells units lost ds) slot ≡ None → IsGone t (missing_of lost ds) slot) × (IsGone t (missing_of lost ds) slot → unit_of t (cells units lost ds) slot ≡ None)
gone_law units lost t ds slot site groups are at = (
  λ none. (
    site,
    at,
    gone_at units lost ds (unit_bytes t) site ((layout_law t groups).whole slot site at) (site_places units t ds slot site groups are at)
        (sym (unit_at_site t (cells units lost ds) slot site at) ∙ none),
  ),
  λ gone. unit_at_site t (cells units lost ds) slot gone.0 gone.1 ∙ gone_holds units lost ds (unit_bytes t) gone.0 gone.2,
)

-- two places of a slot on missing drives are on one drive, where each group misses at most one member
one_missing : (t : Groups) (missing : ℕ → Bool) (slot : ℕ) (site : Site) (x y : Place) → AreGroups t → MissAtMostOne t missing → site_of t slot ≡ Some site
    → IsOf site x → IsOf site y → missing x.drive ≡ true → missing y.drive ≡ true → x.drive ≡ y.drive
one_missing t missing slot site x y groups most at of also mx my =
    let is = slot_of t.segments (group_at t (slot / 128)) (slot % 128) site at in
    let two : 2 ≤ length is.group.members = omega (arith, (groups.formed (slot / 128) is.group is.made).enough) in
    let a = lies t.segments is.group.class is.group.members (slot % 128) x two is.below (subst (λ z. IsOf z x) (sym is.site) of) in
    let b = lies t.segments is.group.class is.group.members (slot % 128) y two is.below (subst (λ z. IsOf z y) (sym is.site) also) in
    let xa : x.drive ≡ a.member.drive = ap (λ (z : Place). z.drive) a.is in
    let yb : y.drive ≡ b.member.drive = ap (λ (z : Place). z.drive) b.is in
    let mine : slice_get (members_of t (slot / 128)) a.number ≡ Some a.member = subst (λ ms. slice_get ms a.number ≡ Some a.member) (sym (ap members_in is.made)) a.there in
    let theirs : slice_get (members_of t (slot / 128)) b.number ≡ Some b.member = subst (λ ms. slice_get ms b.number ≡ Some b.member) (sym (ap members_in is.made)) b.there in
    let number = most (slot / 128) a.number b.number a.member b.member mine theirs (sym (ap missing xa) ∙ mx) (sym (ap missing yb) ∙ my) in
    let same : a.member ≡ b.member = same_Some _ _ (sym a.there ∙ ap (slice_get is.group.members) number ∙ b.there) in
    xa ∙ ap (λ (m : Member). m.drive) same ∙ sym yb

-- no slot is lost then
pub never_gone : (t : Groups) (missing : ℕ → Bool) (slot : ℕ) (site : Site) → AreGroups t → MissAtMostOne t missing → site_of t slot ≡ Some site → IsDriveDisjoint site → IsGoneAt missing site → ⊥
never_gone t missing slot (Pair p q) groups most at whole gone =
    whole (one_missing t missing slot (Pair p q) p q groups most at (inl refl) (inr refl) gone.0 gone.1)
never_gone t missing slot (InStripe row parity i) groups most at whole gone =
    let own = gone.0 in
    let other = gone.1 in
    other.2 (sym (whole.3 i other.0 own.0 other.1 own.1 other.3
    (one_missing t missing slot (InStripe row parity i) own.0 other.1 groups most at (i, own.1) (other.0, other.3) own.2 other.4)))

there_is : (o : Option (List ℕ)) → (o ≡ None → ⊥) → (v : List ℕ) × (o ≡ Some v)
there_is None h = absurd (h refl)
there_is (Some v) h = (v, refl)
