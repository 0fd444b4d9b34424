-- The sites of a table that is well formed are whole and keep apart.
use Rattle.std.proofs.Common.{◌≡◌, ◌≢◌, ℕ, ◌+◌, ◌*◌, ◌/◌, ◌%◌, ◌<◌, ◌≤◌, ◌⊎◌, inl, inr, Bool, true, false, Option, Some, None, List, length, refl, sym, ◌∙◌, ap, subst, arith, get_or, nat_lt}
use Rattle.std.specs.Prelude.{slice_get, map, option_map, if◌then◌else◌}
use Rattle.std.proofs.Math.Nat.{mul-le-mul_right}
use Rattle.std.proofs.lemmas.Bool.{cases_order}
use Rattle.std.proofs.lemmas.Bool.Decides.{nat_tests}
use Rattle.std.proofs.lemmas.List.{length-map}
use Rattle.std.proofs.lemmas.Option.{same_Some, slice_get_within, slice_get-map, slice_get-get_or, get_or_from_slice_get}
use Rattle.extent_groups.specs.declared.class.Class.{Class}
use Rattle.extent_groups.specs.declared.class.Class.TheVariants.{Mirrored, Parity}
use Rattle.extent_groups.specs.declared.class.Member.{Member}
use Rattle.extent_groups.specs.declared.geometry.Spot.{Spot}
use Rattle.extent_groups.specs.Geometry.{slot_count, copies_of, stripe_of, copy_index, stripe_index, parity_of}
use Rattle.extent_groups.specs.Groups.{Group, Groups, group_at, members_in, IsFormed, AreGroups}
use Rattle.extent_groups.specs.declared.place.Place.{Place}
use Rattle.extent_groups.specs.Units.{Site, place_of, place_at, site_in, site_of_index}
use Rattle.extent_groups.specs.Layout.{IsOf, IsApart, AreNearby, IsDriveDisjoint, IsLayout}
use Rattle.extent_groups.proofs.Places.{same_or_not}
use Rattle.extent_groups.proofs.GeometryLaws.{copies_law, stripe_law}

-- what the number and the offset of one of a site's places say of the index: all of it, or the offset of its stripe
pub Tie : Class → ℕ → ℕ → ℕ → ℕ → Type 0
Tie Mirrored n i k o = copy_index n (record { member = k; offset = o }) ≡ i
Tie Parity n i k o = o ≡ (stripe_of n i).offset

-- a place is that of an offset of one of the members
pub record Lies (s : ℕ) (class : Class) (ms : List Member) (i : ℕ) (x : Place) : Type 0 where
  pub number : ℕ
  pub offset : ℕ
  pub member : Member
  pub there : slice_get ms number ≡ Some member
  pub low : offset < 2 * s
  pub is : x ≡ place_of s offset member
  pub tie : Tie class (length ms) i number offset

abbrev pub any_member : Member
any_member = record { drive = 0; extent = 0 }

-- a member of this number, and its place at an offset
pub place_is : (s : ℕ) (ms : List Member) (k o : ℕ) → k < length ms → place_at s ms k o ≡ place_of s o (get_or ms k any_member)
place_is s ms k o h =
    get_or_from_slice_get (map (place_of s o) ms) k (place_of s o (get_or ms k any_member)) _
    (slice_get-map (place_of s o) ms k ∙ ap (option_map (place_of s o)) (slice_get-get_or ms k any_member h))

-- one of a row's places is that of the member of its number
pub row_member : (s : ℕ) (ms : List Member) (o k : ℕ) (x : Place) → slice_get (map (place_of s o) ms) k ≡ Some x
    → (slice_get ms k ≡ Some (get_or ms k any_member)) × (x ≡ place_of s o (get_or ms k any_member))
row_member s ms o k x at =
    let inside : k < length ms = omega (arith, slice_get_within (map (place_of s o) ms) k x at, length-map ms (place_of s o)) in (
      slice_get-get_or ms k any_member inside,
      same_Some _ _ (sym at ∙ slice_get-map (place_of s o) ms k ∙ ap (option_map (place_of s o)) (slice_get-get_or ms k any_member inside)),
    )

-- one of a mirrored slot's two copies lies at its spot
copy_lies : (s : ℕ) (ms : List Member) (i : ℕ) (x : Place) (spot : Spot) → (spot.member < length ms) × (spot.offset < 2 * s) → copy_index (length ms) spot ≡ i
    → x ≡ place_at s ms spot.member spot.offset → Lies s Mirrored ms i x
unfolding Tie
copy_lies s ms i x spot inside back e = record {
  number = spot.member;
  offset = spot.offset;
  member = get_or ms spot.member any_member;
  there = slice_get-get_or ms spot.member any_member inside.0;
  low = inside.1;
  is = e ∙ place_is s ms spot.member spot.offset inside.0;
  tie = back;
}

pub lies : (s : ℕ) (class : Class) (ms : List Member) (i : ℕ) (x : Place) → 2 ≤ length ms → i < slot_count class (length ms) s → IsOf (site_in s class ms i) x → Lies s class ms i x
unfolding Tie
lies s Mirrored ms i x two h (inl e) = let law = copies_law (length ms) s i two h in copy_lies s ms i x (copies_of (length ms) i).first law.first_inside law.first_back e
lies s Mirrored ms i x two h (inr e) = let law = copies_law (length ms) s i two h in copy_lies s ms i x (copies_of (length ms) i).second law.second_inside law.second_back e
lies s Parity ms i x two h k =
    let row = row_member s ms (stripe_of (length ms) i).offset k.0 x k.1 in
    record {
      number = k.0;
      offset = (stripe_of (length ms) i).offset;
      member = get_or ms k.0 any_member;
      there = row.0;
      low = (stripe_law (length ms) s i two h).inside.1;
      is = row.1;
      tie = refl;
    }

-- an address gives its extent and its offset
pub one_address : (w e f o p : ℕ) → e * w + o ≡ f * w + p → o < w → p < w → (e ≡ f) × (o ≡ p)
one_address w e f o p same h k = elim (cases_order e f) [
  | inl eq ↦ (let both : e * w ≡ f * w = ap (λ n. n * w) eq in (eq, omega (arith, both)))
  | inr apart ↦ elim apart [
    | inl below ↦ (let more : e + 1 ≤ f = omega arith in absurd (omega (arith, mul-le-mul_right w more)))
    | inr above ↦ (let more : f + 1 ≤ e = omega arith in absurd (omega (arith, mul-le-mul_right w more)))
  ]
]

-- two places that are one: one drive, one extent, one offset
record SamePlace (m a : Member) (o p : ℕ) : Type 0 where
  drive : m.drive ≡ a.drive
  extent : m.extent ≡ a.extent
  offset : o ≡ p

same_place : (s : ℕ) (m a : Member) (o p : ℕ) → place_of s o m ≡ place_of s p a → o < 2 * s → p < 2 * s → SamePlace m a o p
same_place s m a o p e h k =
    let one = one_address (2 * s) m.extent a.extent o p (ap (λ (x : Place). x.address) e) h k in
    record { drive = ap (λ (x : Place). x.drive) e; extent = one.0; offset = one.1 }

-- two slots of one group
in_group : (s : ℕ) (class : Class) (ms : List Member) (i j : ℕ) → IsFormed ms → i ≢ j → i < slot_count class (length ms) s → j < slot_count class (length ms) s
    → IsApart (site_in s class ms i) (site_in s class ms j) ⊎ AreNearby (site_in s class ms i) (site_in s class ms j)
unfolding Tie
in_group s Mirrored ms i j formed ne hi hj =
    let two : 2 ≤ length ms = omega (arith, formed.enough) in
    inl (λ x xi xj.
    (let a = lies s Mirrored ms i x two hi xi in
    let b = lies s Mirrored ms j x two hj xj in
    let same = same_place s a.member b.member a.offset b.offset (sym a.is ∙ b.is) a.low b.low in
    let number = formed.spread a.number b.number a.member b.member a.there b.there same.drive in
    ne (sym a.tie ∙ ap (λ k. let y : Spot = record { member = k; offset = a.offset } in copy_index (length ms) y) number
    ∙ ap (λ o. let y : Spot = record { member = b.number; offset = o } in copy_index (length ms) y) same.offset ∙ b.tie)))
in_group s Parity ms i j formed ne hi hj =
    let two : 2 ≤ length ms = omega (arith, formed.enough) in
    let p = stripe_law (length ms) s i two hi in
    let q = stripe_law (length ms) s j two hj in
    elim (same_or_not (stripe_of (length ms) i).offset (stripe_of (length ms) j).offset) [
      | inl e ↦ inr (
        ap (λ o. map (place_of s o) ms) (sym e),
        sym q.one_parity ∙ ap (λ o. parity_of (length ms) (o / 2)) (sym e) ∙ p.one_parity,
        λ m. ne (sym p.back ∙ ap (λ k. stripe_index (length ms) k (stripe_of (length ms) i).offset) (sym m) ∙ ap (λ o. stripe_index (length ms) (stripe_of (length ms) j).member o) e ∙ q.back),
      )
      | inr apart ↦ inl (λ x xi xj.
          (let a = lies s Parity ms i x two hi xi in
          let b = lies s Parity ms j x two hj xj in
          let same = same_place s a.member b.member a.offset b.offset (sym a.is ∙ b.is) a.low b.low in
          apart (sym a.tie ∙ same.offset ∙ b.tie)))
    ]

-- what a slot with a site is: an index of a group that is made
pub record IsSlot (s : ℕ) (o : Option Group) (i : ℕ) (a : Site) : Type 0 where
  pub group : Group
  pub made : o ≡ Some group
  pub below : i < slot_count group.class (length group.members) s
  pub site : site_in s group.class group.members i ≡ a

chosen : {X : Type 0} (b : Bool) (x y : X) → (if b then Some x else None) ≡ Some y → (b ≡ true) × (x ≡ y)
chosen true x y e = (refl, same_Some x y e)
chosen false x y e = absurd (let both : None ≡ Some y = e in cc)

is_below : (a b : ℕ) → nat_lt a b ≡ true → a < b
is_below a b e = grind (arith, nat_tests)

pub slot_of : (s : ℕ) (o : Option Group) (i : ℕ) (a : Site) → site_of_index s o i ≡ Some a → IsSlot s o i a
slot_of s None i a e = absurd (let both : None ≡ Some a = e in cc)
slot_of s (Some group) i a e =
    let both = chosen (nat_lt i (slot_count group.class (length group.members) s)) (site_in s group.class group.members i) a e in
    record { group = group; made = refl; below = is_below _ _ both.0; site = both.1 }

-- the site of an index is whole
whole_in : (s : ℕ) (class : Class) (ms : List Member) (i : ℕ) → IsFormed ms → i < slot_count class (length ms) s → IsDriveDisjoint (site_in s class ms i)
whole_in s Mirrored ms i formed h =
    let two : 2 ≤ length ms = omega (arith, formed.enough) in
    let law = copies_law (length ms) s i two h in
    let first = place_is s ms (copies_of (length ms) i).first.member (copies_of (length ms) i).first.offset law.first_inside.0 in
    let second = place_is s ms (copies_of (length ms) i).second.member (copies_of (length ms) i).second.offset law.second_inside.0 in
    λ e. law.apart (formed.spread _ _ _ _ (slice_get-get_or ms _ any_member law.first_inside.0) (slice_get-get_or ms _ any_member law.second_inside.0)
    (sym (ap (λ (x : Place). x.drive) first) ∙ e ∙ ap (λ (x : Place). x.drive) second))
whole_in s Parity ms i formed h =
    let two : 2 ≤ length ms = omega (arith, formed.enough) in
    let law = stripe_law (length ms) s i two h in
    let wide = length-map ms (place_of s (stripe_of (length ms) i).offset) in (
      omega (arith, law.inside.0, wide),
      omega (arith, law.inside.2, wide),
      law.apart,
      λ j k x y xa ya e.
          (let a = row_member s ms (stripe_of (length ms) i).offset j x xa in
          let b = row_member s ms (stripe_of (length ms) i).offset k y ya in
          formed.spread j k _ _ a.0 b.0 (sym (ap (λ (z : Place). z.drive) a.1) ∙ e ∙ ap (λ (z : Place). z.drive) b.1)),
    )

pub layout_law : (t : Groups) → AreGroups t → IsLayout t
layout_law t are = record {
  whole = λ slot a e.
      (let x = slot_of t.segments (group_at t (slot / 128)) (slot % 128) a e in
      subst IsDriveDisjoint x.site (whole_in t.segments x.group.class x.group.members (slot % 128) (are.formed (slot / 128) x.group x.made) x.below));
  apart = λ slot other a b ne e f.
      (let x = slot_of t.segments (group_at t (slot / 128)) (slot % 128) a e in
      let y = slot_of t.segments (group_at t (other / 128)) (other % 128) b f in
      let formed = are.formed (slot / 128) x.group x.made in
      elim (same_or_not (slot / 128) (other / 128)) [
        | inl same ↦
            (let eq : y.group ≡ x.group = same_Some _ _ (sym y.made ∙ ap (group_at t) (sym same) ∙ x.made) in
            let below : other % 128 < slot_count x.group.class (length x.group.members) t.segments =
            subst (λ (z : Group). other % 128 < slot_count z.class (length z.members) t.segments) eq y.below in
            let site : site_in t.segments x.group.class x.group.members (other % 128) ≡ b =
            ap (λ (z : Group). site_in t.segments z.class z.members (other % 128)) (sym eq) ∙ y.site in
            let apart : slot % 128 ≢ other % 128 = λ q. ne (omega (arith, q, same)) in
            let r = in_group t.segments x.group.class x.group.members (slot % 128) (other % 128) formed apart x.below below in
            subst (λ z. IsApart z b ⊎ AreNearby z b) x.site
            (subst (λ z. IsApart (site_in t.segments x.group.class x.group.members (slot % 128)) z ⊎ AreNearby (site_in t.segments x.group.class x.group.members (slot % 128)) z) site r))
        | inr apart ↦ inl (λ p pa pb.
            (let two : 2 ≤ length x.group.members = omega (arith, formed.enough) in
            let others : 2 ≤ length y.group.members = omega (arith, (are.formed (other / 128) y.group y.made).enough) in
            let la = lies t.segments x.group.class x.group.members (slot % 128) p two x.below (subst (λ z. IsOf z p) (sym x.site) pa) in
            let lb = lies t.segments y.group.class y.group.members (other % 128) p others y.below (subst (λ z. IsOf z p) (sym y.site) pb) in
            let same = same_place t.segments la.member lb.member la.offset lb.offset (sym la.is ∙ lb.is) la.low lb.low in
            let mine = subst (λ ms. slice_get ms la.number ≡ Some la.member) (sym (ap members_in x.made)) la.there in
            let theirs = subst (λ ms. slice_get ms lb.number ≡ Some lb.member) (sym (ap members_in y.made)) lb.there in
            apart (are.apart (slot / 128) (other / 128) la.number lb.number la.member lb.member mine theirs same.drive same.extent)))
      ]);
}
