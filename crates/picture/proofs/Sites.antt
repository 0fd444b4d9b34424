-- What a place of a group's member is, from the role of its offset.
use Rattle.std.proofs.Common.{◌≡◌, ◌≢◌, ℕ, zero, suc, ◌+◌, ◌*◌, ◌/◌, ◌%◌, ◌<◌, ◌≤◌, inl, inr, true, false, Option, Some, None, List, length, refl, sym, ◌∙◌, ap, subst, arith, nat_lt, get_or}
use Rattle.std.specs.Prelude.{slice_get, map, option_map, ◌==◌, if◌then◌else◌}
use Rattle.std.proofs.lemmas.Bool.Decides.{nat_tests}
use Rattle.std.proofs.lemmas.Option.{same_Some, none-some, slice_get-map, slice_get-get_or, get_or_from_slice_get}
use Rattle.extent_groups.specs.declared.class.Class.{Class}
use Rattle.extent_groups.specs.declared.class.Class.TheVariants.{Mirrored, Parity}
use Rattle.extent_groups.specs.declared.class.Member.{Member}
use Rattle.extent_groups.specs.declared.geometry.Spot.{Spot}
use Rattle.extent_groups.specs.declared.role.Role.TheVariants.{Slot, ParityUnit, Unused}
use Rattle.extent_groups.specs.declared.place.Place.{Place}
use Rattle.extent_groups.specs.Geometry.{slot_count, copies_of, stripe_of, stripe_index, parity_of}
use Rattle.extent_groups.specs.Groups.{Group, Groups, group_at, members_in, members_of, slots_in, IsFormed, AreGroups}
use Rattle.extent_groups.specs.Roles.{LiesAt, IsRole, IsRoleIn}
use Rattle.extent_groups.specs.Units.{Site, place_of, place_at, site_in, site_of, site_of_index}
use Rattle.extent_groups.specs.Layout.{IsOf}
use Rattle.extent_groups.proofs.Bounds.{slot_count_small}
use Rattle.extent_groups.proofs.GeometryLaws.{copies_law, stripe_law}
use Rattle.extent_groups.proofs.LayoutLaw.{lies, slot_of, one_address}
use Rattle.extent_groups.proofs.Roles.{parity_is}
use Rattle.picture.specs.Marks.{IsFirstPlace, IsSecond, IsParity, HasAt, is_second_of, is_second_in}

-- a slot's role gives an index of the group
pub slot_low : (o : Option Group) (s m x i : ℕ) → m < length (members_in o) → IsRoleIn o s m x (Slot i) → i < slots_in s o
slot_low None s m x i low role = absurd (omega arith)
slot_low (Some group) s m x i low role = role.0

-- a member of this number, and its place at an offset
place_here : (s : ℕ) (ms : List Member) (k x : ℕ) (m : Member) → slice_get ms k ≡ Some m → place_at s ms k x ≡ place_of s x m
place_here s ms k x m at = get_or_from_slice_get (map (place_of s x) ms) k (place_of s x m) _ (slice_get-map (place_of s x) ms k ∙ ap (option_map (place_of s x)) at)

-- the site of an index of a group
site_here : (t : Groups) (g i : ℕ) (group : Group) → group_at t g ≡ Some group → i < 128 → i < slot_count group.class (length group.members) t.segments
    → site_of t (128 * g + i) ≡ Some (site_in t.segments group.class group.members i)
site_here t g i group made low below =
    let own : (128 * g + i) / 128 ≡ g = omega arith in
    let index : (128 * g + i) % 128 ≡ i = omega arith in
    let test : nat_lt i (slot_count group.class (length group.members) t.segments) ≡ true = grind (arith, nat_tests) in
    ap (λ k. site_of_index t.segments (group_at t k) ((128 * g + i) % 128)) own
    ∙ ap (λ j. site_of_index t.segments (group_at t g) j) index
    ∙ ap (λ o. site_of_index t.segments o i) made
    ∙ ap (λ b. if b then Some (site_in t.segments group.class group.members i) else None) test

-- a member holds an index's second copy, or its first place
pub second_is : (s : ℕ) (class : Class) (ms : List Member) (m x i : ℕ) (at : Member) → 2 ≤ length ms → slice_get ms m ≡ Some at → i < slot_count class (length ms) s
    → LiesAt class (length ms) i m x → is_second_of class (length ms) i m ≡ true → IsSecond (site_in s class ms i) (place_of s x at)
second_is s Parity ms m x i at two here low lies is = absurd (let both : false ≡ true = is in cc)
second_is s Mirrored ms m x i at two here low lies is =
    let copies = copies_of (length ms) i in
    let law = copies_law (length ms) s i two low in
    let same : copies.second.member ≡ m = grind (arith, nat_tests) in
    elim lies [
      | inl e ↦ absurd (law.apart (ap (λ (y : Spot). y.member) e ∙ sym same))
      | inr e ↦ sym (ap (λ (y : Spot). place_at s ms y.member y.offset) e ∙ place_here s ms m x at here)
    ]

pub first_is : (s : ℕ) (class : Class) (ms : List Member) (m x i : ℕ) (at : Member) → slice_get ms m ≡ Some at
    → LiesAt class (length ms) i m x → is_second_of class (length ms) i m ≡ false → IsFirstPlace (site_in s class ms i) (place_of s x at)
first_is s Parity ms m x i at here lies is =
    let row = slice_get-map (place_of s x) ms m ∙ ap (option_map (place_of s x)) here in
    ap (λ o. slice_get (map (place_of s o) ms) (stripe_of (length ms) i).member) lies.1 ∙ ap (λ k. slice_get (map (place_of s x) ms) k) lies.0 ∙ row
first_is s Mirrored ms m x i at here lies is =
    let copies = copies_of (length ms) i in
    let apart : copies.second.member ≢ m = grind (arith, nat_tests) in
    elim lies [
      | inl e ↦ sym (ap (λ (y : Spot). place_at s ms y.member y.offset) e ∙ place_here s ms m x at here)
      | inr e ↦ absurd (apart (ap (λ (y : Spot). y.member) e))
    ]

-- a group with such a member
record IsIn (t : Groups) (g m : ℕ) (at : Member) : Type 0 where
  group : Group
  made : group_at t g ≡ Some group
  there : slice_get group.members m ≡ Some at

is_in : (t : Groups) (g m : ℕ) (at : Member) → slice_get (members_of t g) m ≡ Some at → IsIn t g m at
is_in t g m at there = by (group_at t g) refl there where
  by : (o : Option Group) → group_at t g ≡ o → slice_get (members_in o) m ≡ Some at → IsIn t g m at
  by None e here = absurd (none-some at here)
  by (Some group) e here = record { group = group; made = e; there = here }

-- a place of a slot's role is the slot's second copy, or its first place
pub second_at : (t : Groups) (g m x i slot : ℕ) (at : Member) → AreGroups t → slice_get (members_of t g) m ≡ Some at → IsRoleIn (group_at t g) t.segments m x (Slot i)
    → i < 128 → slot ≡ 128 * g + i → is_second_in (group_at t g) i m ≡ true → HasAt t slot IsSecond (place_of t.segments x at) × (slot / 128 ≡ g)
second_at t g m x i slot at are there role small number is =
    let a = is_in t g m at there in
    let r : IsRole a.group.class (length a.group.members) t.segments m x (Slot i) = subst (λ o. IsRoleIn o t.segments m x (Slot i)) a.made role in
    let two : 2 ≤ length a.group.members = omega (arith, (are.formed g a.group a.made).enough) in
    let test : is_second_of a.group.class (length a.group.members) i m ≡ true = subst (λ o. is_second_in o i m ≡ true) a.made is in (
      (site_in t.segments a.group.class a.group.members i, ap (site_of t) number ∙ site_here t g i a.group a.made small r.0, second_is t.segments a.group.class a.group.members m x i at two a.there r.0 r.1 test),
      omega arith,
    )

pub first_at : (t : Groups) (g m x i slot : ℕ) (at : Member) → AreGroups t → slice_get (members_of t g) m ≡ Some at → IsRoleIn (group_at t g) t.segments m x (Slot i)
    → i < 128 → slot ≡ 128 * g + i → is_second_in (group_at t g) i m ≡ false → HasAt t slot IsFirstPlace (place_of t.segments x at) × (slot / 128 ≡ g)
first_at t g m x i slot at are there role small number is =
    let a = is_in t g m at there in
    let r : IsRole a.group.class (length a.group.members) t.segments m x (Slot i) = subst (λ o. IsRoleIn o t.segments m x (Slot i)) a.made role in
    let test : is_second_of a.group.class (length a.group.members) i m ≡ false = subst (λ o. is_second_in o i m ≡ false) a.made is in (
      (site_in t.segments a.group.class a.group.members i, ap (site_of t) number ∙ site_here t g i a.group a.made small r.0, first_is t.segments a.group.class a.group.members m x i at a.there r.1 test),
      omega arith,
    )

-- an index of a parity group whose row has this offset, and not on this member
record HasRow (n s m x : ℕ) : Type 0 where
  index : ℕ
  below : index < slot_count Parity n s
  row : (stripe_of n index).offset ≡ x
  parity : (stripe_of n index).parity ≡ parity_of n (x / 2)

-- the row of a member's offset, which isn't the parity's
row_of : (n s q x : ℕ) → 2 ≤ n → q < n → x < 2 * s → q ≢ parity_of n (x / 2) → HasRow n s q x
row_of n s q x two low within ne =
    let test : (q == parity_of n (x / 2)) ≡ false = grind (arith, nat_tests) in
    let r = subst (λ b. IsRole Parity n s q x (if b then ParityUnit else Slot (stripe_index n q x))) test (parity_is n s q x two low within) in
    let law = stripe_law n s (stripe_index n q x) two r.0 in
    record {
      index = stripe_index n q x;
      below = r.0;
      row = r.1.1;
      parity = sym law.one_parity ∙ ap (λ o. parity_of n (o / 2)) r.1.1;
    }

-- another member than this one
other : (n m : ℕ) → 3 ≤ n → (q : ℕ) × (q < n) × (q ≢ m)
other n zero h = (1, omega arith, omega arith)
other n (suc m) h = (0, omega arith, omega arith)

-- a place of the parity's role is the parity of a slot of the group
parity_here : (t : Groups) (g m x : ℕ) (at : Member) (group : Group) → AreGroups t → group_at t g ≡ Some group → slice_get group.members m ≡ Some at → x < 2 * t.segments
    → group.class ≡ Parity → m ≡ parity_of (length group.members) (x / 2) → (slot : ℕ) × HasAt t slot IsParity (place_of t.segments x at) × (slot / 128 ≡ g)
parity_here t g m x at group are made there low class is =
    let n : ℕ = length group.members in
    let s : ℕ = t.segments in
    let formed = are.formed g group made in
    let q = other n m formed.enough in
    let row = row_of n s q.0 x (omega (arith, formed.enough)) q.1 low (λ e. q.2 (e ∙ sym is)) in
    let small : row.index < 128 = omega (arith, row.below, slot_count_small Parity n s formed.few are.segments.1) in
    let below : row.index < slot_count group.class n s = subst (λ c. row.index < slot_count c n s) (sym class) row.below in
    let site : site_in s group.class group.members row.index ≡ site_in s Parity group.members row.index = ap (λ c. site_in s c group.members row.index) class in (
      128 * g + row.index,
      (
        site_in s Parity group.members row.index,
        site_here t g row.index group made small below ∙ ap (λ z. Some z) site,
        ap (λ o. slice_get (map (place_of s o) group.members) (stripe_of n row.index).parity) row.row
            ∙ ap (λ k. slice_get (map (place_of s x) group.members) k) (row.parity ∙ sym is)
            ∙ slice_get-map (place_of s x) group.members m ∙ ap (option_map (place_of s x)) there,
      ),
      omega arith,
    )

pub parity_at : (t : Groups) (g m x : ℕ) (at : Member) → AreGroups t → slice_get (members_of t g) m ≡ Some at → IsRoleIn (group_at t g) t.segments m x ParityUnit
    → x < 2 * t.segments → (slot : ℕ) × HasAt t slot IsParity (place_of t.segments x at) × (slot / 128 ≡ g)
parity_at t g m x at are there role low =
    let a = is_in t g m at there in
    by a.group.class refl (subst (λ o. IsRoleIn o t.segments m x ParityUnit) a.made role)
  where
    by : (class : Class) → (is_in t g m at there).group.class ≡ class → IsRole class (length (is_in t g m at there).group.members) t.segments m x ParityUnit
        → (slot : ℕ) × HasAt t slot IsParity (place_of t.segments x at) × (slot / 128 ≡ g)
    by Mirrored e role = absurd role
    by Parity e role = let a = is_in t g m at there in parity_here t g m x at a.group are a.made a.there low e role

-- a spot whose place is that of a member's offset is this member's, at this offset
same_spot : (s : ℕ) (ms : List Member) (m x : ℕ) (at : Member) (spot : Spot) → IsFormed ms → slice_get ms m ≡ Some at → x < 2 * s → (spot.member < length ms) × (spot.offset < 2 * s)
    → place_of s x at ≡ place_at s ms spot.member spot.offset → spot ≡ record { member = m; offset = x }
same_spot s ms m x at spot formed there low inside e =
    let here = slice_get-get_or ms spot.member at inside.0 in
    let is : place_of s x at ≡ place_of s spot.offset (get_or ms spot.member at) = e ∙ place_here s ms spot.member spot.offset _ here in
    let number : m ≡ spot.member = formed.spread m spot.member at _ there here (ap (λ (y : Place). y.drive) is) in
    let offset : x ≡ spot.offset = (one_address (2 * s) at.extent (get_or ms spot.member at).extent x spot.offset (ap (λ (y : Place). y.address) is) low inside.1).1 in
    ap (λ k. let y : Spot = record { member = k; offset = spot.offset } in y) (sym number) ∙ ap (λ o. let y : Spot = record { member = m; offset = o } in y) (sym offset)

-- a mirrored slot of which a place is that of a member's offset lies there
spot_of : (s : ℕ) (ms : List Member) (m x i : ℕ) (at : Member) → IsFormed ms → slice_get ms m ≡ Some at → x < 2 * s → i < slot_count Mirrored (length ms) s
    → IsOf (site_in s Mirrored ms i) (place_of s x at) → LiesAt Mirrored (length ms) i m x
spot_of s ms m x i at formed there low below of =
    let law = copies_law (length ms) s i (omega (arith, formed.enough)) below in
    elim of [
      | inl e ↦ inl (same_spot s ms m x at (copies_of (length ms) i).first formed there low law.first_inside e)
      | inr e ↦ inr (same_spot s ms m x at (copies_of (length ms) i).second formed there low law.second_inside e)
    ]

-- two members with one place are one group's
one_owner : (t : Groups) (g h m k x y : ℕ) (a b : Member) → AreGroups t → slice_get (members_of t g) m ≡ Some a → slice_get (members_of t h) k ≡ Some b → x < 2 * t.segments → y < 2 * t.segments
    → place_of t.segments x a ≡ place_of t.segments y b → g ≡ h
one_owner t g h m k x y a b are there theirs low other is =
    let extent = (one_address (2 * t.segments) a.extent b.extent x y (ap (λ (z : Place). z.address) is) low other).0 in
    are.apart g h m k a b there theirs (ap (λ (z : Place). z.drive) is) extent

-- a slot with a place of a member is one of the member's group
same_group : (t : Groups) (g m x slot : ℕ) (at : Member) (site : Site) → AreGroups t → slice_get (members_of t g) m ≡ Some at → x < 2 * t.segments → site_of t slot ≡ Some site
    → IsOf site (place_of t.segments x at) → g ≡ slot / 128
same_group t g m x slot at site are there low is of =
    let z = slot_of t.segments (group_at t (slot / 128)) (slot % 128) site is in
    let two : 2 ≤ length z.group.members = omega (arith, (are.formed (slot / 128) z.group z.made).enough) in
    let l = lies t.segments z.group.class z.group.members (slot % 128) (place_of t.segments x at) two z.below (subst (λ s. IsOf s (place_of t.segments x at)) (sym z.site) of) in
    let theirs = subst (λ ms. slice_get ms l.number ≡ Some l.member) (sym (ap members_in z.made)) l.there in
    one_owner t g (slot / 128) m l.number x l.offset at l.member are there theirs low l.low l.is

-- a place of no slot's role is no slot's
unused_here : (t : Groups) (g m x : ℕ) (at : Member) (group : Group) → AreGroups t → group_at t g ≡ Some group → slice_get (members_of t g) m ≡ Some at → slice_get group.members m ≡ Some at
    → x < 2 * t.segments → group.class ≡ Mirrored → IsRole Mirrored (length group.members) t.segments m x Unused → (slot : ℕ) → HasAt t slot IsOf (place_of t.segments x at) → ⊥
unused_here t g m x at group are made there here low class none slot has =
    let own = same_group t g m x slot at has.0 are there low has.1 has.2 in
    let z = slot_of t.segments (group_at t (slot / 128)) (slot % 128) has.0 has.1 in
    let same : z.group ≡ group = same_Some _ _ (sym z.made ∙ ap (group_at t) (sym own) ∙ made) in
    let below : slot % 128 < slot_count Mirrored (length group.members) t.segments =
    subst (λ c. slot % 128 < slot_count c (length group.members) t.segments) class (subst (λ (y : Group). slot % 128 < slot_count y.class (length y.members) t.segments) same z.below) in
    let site : site_in t.segments Mirrored group.members (slot % 128) ≡ has.0 =
    ap (λ c. site_in t.segments c group.members (slot % 128)) (sym class) ∙ ap (λ (y : Group). site_in t.segments y.class y.members (slot % 128)) (sym same) ∙ z.site in
    none (slot % 128) below
    (spot_of t.segments group.members m x (slot % 128) at (are.formed g group made) here low below (subst (λ y. IsOf y (place_of t.segments x at)) (sym site) has.2))

pub unused_at : (t : Groups) (g m x : ℕ) (at : Member) → AreGroups t → slice_get (members_of t g) m ≡ Some at → IsRoleIn (group_at t g) t.segments m x Unused
    → x < 2 * t.segments → (slot : ℕ) → HasAt t slot IsOf (place_of t.segments x at) → ⊥
unused_at t g m x at are there role low =
    let a = is_in t g m at there in
    by a.group.class refl (subst (λ o. IsRoleIn o t.segments m x Unused) a.made role)
  where
    by : (class : Class) → (is_in t g m at there).group.class ≡ class → IsRole class (length (is_in t g m at there).group.members) t.segments m x Unused
        → (slot : ℕ) → HasAt t slot IsOf (place_of t.segments x at) → ⊥
    by Parity e role = absurd role
    by Mirrored e role = let a = is_in t g m at there in unused_here t g m x at a.group are a.made there a.there low e role
