-- Groups and owners agree after a group is made, dissolved, or has a member swapped; and the table stays well formed.
use Rattle.std.proofs.Common.{◌≡◌, ◌≢◌, ℕ, zero, suc, ◌<◌, ◌⊎◌, inl, inr, Option, Some, None, List, [], ◌∷◌, ◌++◌, length, refl, sym, ◌∙◌, ap, subst, arith, length-append}
use Rattle.std.specs.Prelude.{slice_get, unwrap_or, replicate}
use Rattle.std.proofs.lemmas.List.{length-set, length-replicate, get_or_append_left, get_or_push}
use Rattle.std.proofs.lemmas.Option.{same_Some, slice_get_within, slice_get_cases, unwrap_or-slice_get}
use Rattle.extents.specs.Owners.{Owners, owner_of, owner_row, with_drive}
use Rattle.extent_groups.specs.declared.class.Member.{Member}
use Rattle.extent_groups.specs.Groups.{Group, Groups, group_at, members_in, members_of, with_group, with_owners, AreThere, IsFormed, AreGroups, Agree, IsFree}
use Rattle.extent_groups.proofs.Places.{same_or_not}
use Rattle.extent_groups.proofs.OwnersLemmas.{wide_all, extent_all, owner_out, owner_in}
use Rattle.extent_groups.proofs.Fresh.{no_members, none_of}
use Rattle.extent_groups.proofs.GroupsLemmas.{group_same, group_other, apart_of}

-- a group with another one under one number, as members
pub members_same : (t : Groups) (g : ℕ) (x : Option Group) → g < length t.table → members_of (with_group t g x) g ≡ members_in x
members_same t g x h = ap members_in (group_same t g x h)

pub members_other : (t : Groups) (g h : ℕ) (x : Option Group) → h ≢ g → members_of (with_group t g x) h ≡ members_of t h
members_other t g h x apart = ap members_in (group_other t g h x apart)

-- two owners of one extent are one
pub one_owner : (o : Owners) (m a : Member) (g h : ℕ) → owner_of o m.drive m.extent ≡ Some g → owner_of o a.drive a.extent ≡ Some h → m.drive ≡ a.drive → m.extent ≡ a.extent → g ≡ h
one_owner o m a g h p q d e = same_Some _ _ (sym p ∙ ap (λ x. owner_of o x m.extent) d ∙ ap (λ y. owner_of o a.drive y) e ∙ q)

-- an extent with an owner isn't one without
pub owned_or_free : (o : Owners) (m a : Member) (g : ℕ) → owner_of o m.drive m.extent ≡ Some g → owner_of o a.drive a.extent ≡ None → m.drive ≡ a.drive → m.extent ≡ a.extent → ⊥
owned_or_free o m a g p q d e =
    let both : Some g ≡ None = sym p ∙ ap (λ x. owner_of o x m.extent) d ∙ ap (λ y. owner_of o a.drive y) e ∙ q in cc

-- no later member, and not the first one
none_more : (n : Member) (ms : List Member) (x y : ℕ) → (x ≡ n.drive → y ≡ n.extent → ⊥) → ((k : ℕ) (m : Member) → slice_get ms k ≡ Some m → x ≡ m.drive → y ≡ m.extent → ⊥)
    → (k : ℕ) (m : Member) → slice_get (n ∷ ms) k ≡ Some m → x ≡ m.drive → y ≡ m.extent → ⊥
none_more n ms x y first none zero m at d e =
    let same : n ≡ m = same_Some n m at in
    first (d ∙ sym (ap (λ (a : Member). a.drive) same)) (e ∙ sym (ap (λ (a : Member). a.extent) same))
none_more n ms x y first none (suc k) m at d e = none k m at d e

-- an extent is one of the members or none of them
Found : List Member → ℕ → ℕ → Type 0
Found ms x y = ((k : ℕ) × (slice_get ms k ≡ Some (record { drive = x; extent = y }))) ⊎ ((k : ℕ) (m : Member) → slice_get ms k ≡ Some m → x ≡ m.drive → y ≡ m.extent → ⊥)

found_more : (n : Member) (ms : List Member) (x y : ℕ) → (x ≡ n.drive → y ≡ n.extent → ⊥) → Found ms x y → Found (n ∷ ms) x y
unfolding Found
found_more n ms x y first (inl there) = inl (suc there.0, there.1)
found_more n ms x y first (inr none) = inr (none_more n ms x y first none)

among : (ms : List Member) (x y : ℕ) → Found ms x y
unfolding Found
among [] x y = inr (λ k m at d e. absurd (omega (arith, slice_get_within [] k m at)))
among (n ∷ ms) x y = elim (same_or_not x n.drive) [
  | inl p ↦ elim (same_or_not y n.extent) [
    | inl q ↦
        (let here : Some n ≡ Some (record { drive = x; extent = y }) =
        ap (λ d. let m : Member = record { drive = d; extent = n.extent } in Some m) (sym p) ∙ ap (λ e. let m : Member = record { drive = x; extent = e } in Some m) (sym q) in
        inl (0, here))
    | inr q ↦ found_more n ms x y (λ _ e. q e) (among ms x y)
  ]
  | inr p ↦ found_more n ms x y (λ d _. p d) (among ms x y)
]

-- a group is made of extents that no group owns
pub agree_put : (t : Groups) (o : Owners) (g : ℕ) (group : Group) → Agree t o → IsFree t g → AreThere o group.members
    → ((k : ℕ) (m : Member) → slice_get group.members k ≡ Some m → owner_of o m.drive m.extent ≡ None)
    → Agree (with_group t g (Some group)) (with_owners o group.members (Some g))
unfolding Found
agree_put t o g group agree free there unowned = record {
  owned = λ h k m at. elim (same_or_not h g) [
    | inl e ↦
        (let here = subst (λ ms. slice_get ms k ≡ Some m) (ap (members_of (with_group t g (Some group))) e ∙ members_same t g (Some group) free.within) at in
        (extent_all o group.members m.drive m.extent (Some g) (there k m here), owner_in o group.members (Some g) k m agree.wide there here ∙ ap (λ n. Some n) (sym e)))
    | inr ne ↦
        (let here = subst (λ ms. slice_get ms k ≡ Some m) (members_other t g h (Some group) ne) at in
        let old = agree.owned h k m here in (
          extent_all o group.members m.drive m.extent (Some g) old.0,
          owner_out o group.members m.drive m.extent (Some g) there (λ j a aj d e. owned_or_free o m a h old.1 (unowned j a aj) d e) ∙ old.1,
        ))
  ];
  matches = λ h x y owned. elim (among group.members x y) [
    | inl found ↦
        (let same : g ≡ h = same_Some _ _ (sym (owner_in o group.members (Some g) found.0 (record { drive = x; extent = y }) agree.wide there found.1) ∙ owned) in
        (found.0, subst (λ ms. slice_get ms found.0 ≡ Some (record { drive = x; extent = y })) (sym (members_same t g (Some group) free.within) ∙ ap (members_of (with_group t g (Some group))) same) found.1))
    | inr none ↦
        (let old = agree.matches h x y (sym (owner_out o group.members x y (Some g) there none) ∙ owned) in
        let ne : h ≢ g = λ e. no_members t g old.0 (record { drive = x; extent = y }) free.free (subst (λ n. slice_get (members_of t n) old.0 ≡ Some (record { drive = x; extent = y })) e old.1) in
        (old.0, subst (λ ms. slice_get ms old.0 ≡ Some (record { drive = x; extent = y })) (sym (members_other t g h (Some group) ne)) old.1))
  ];
  wide = wide_all o group.members (Some g) agree.wide there;
}

-- the members of a group are there
pub members_there : (t : Groups) (o : Owners) (g : ℕ) (group : Group) → Agree t o → group_at t g ≡ Some group → AreThere o group.members
members_there t o g group agree made k m at = (agree.owned g k m (subst (λ ms. slice_get ms k ≡ Some m) (sym (ap members_in made)) at)).0

-- a group is dissolved, and its extents are free
pub agree_take : (t : Groups) (o : Owners) (g : ℕ) (group : Group) → Agree t o → g < length t.table → group_at t g ≡ Some group
    → Agree (with_group t g None) (with_owners o group.members None)
unfolding Found
agree_take t o g group agree within made =
    let there = members_there t o g group agree made in
    record {
      owned = λ h k m at. elim (same_or_not h g) [
        | inl e ↦ absurd (omega (arith, slice_get_within [] k m (subst (λ ms. slice_get ms k ≡ Some m) (ap (members_of (with_group t g None)) e ∙ members_same t g None within) at)))
        | inr ne ↦
            (let here = subst (λ ms. slice_get ms k ≡ Some m) (members_other t g h None ne) at in
            let old = agree.owned h k m here in (
              extent_all o group.members m.drive m.extent None old.0,
              owner_out o group.members m.drive m.extent None there
                  (λ j a aj d e. ne (one_owner o m a h g old.1 (agree.owned g j a (subst (λ ms. slice_get ms j ≡ Some a) (sym (ap members_in made)) aj)).1 d e)) ∙ old.1,
            ))
      ];
      matches = λ h x y owned. elim (among group.members x y) [
        | inl found ↦
            (let both : None ≡ Some h = sym (owner_in o group.members None found.0 (record { drive = x; extent = y }) agree.wide there found.1) ∙ owned in absurd cc)
        | inr none ↦
            (let old = agree.matches h x y (sym (owner_out o group.members x y None there none) ∙ owned) in
            let ne : h ≢ g = λ e. none old.0 (record { drive = x; extent = y }) (subst (λ ms. slice_get ms old.0 ≡ Some (record { drive = x; extent = y })) (ap (members_of t) e ∙ ap members_in made) old.1) refl refl in
            (old.0, subst (λ ms. slice_get ms old.0 ≡ Some (record { drive = x; extent = y })) (sym (members_other t g h None ne)) old.1))
      ];
      wide = wide_all o group.members None agree.wide there;
    }

-- a table that agrees with some owners stays well formed with another group that is formed, or none
pub groups_with : (t : Groups) (o : Owners) (g : ℕ) (x : Option Group) → AreGroups t → Agree (with_group t g x) o → g < length t.table
    → ((group : Group) → x ≡ Some group → IsFormed group.members) → AreGroups (with_group t g x)
groups_with t o g x are agree within formed = record {
  segments = are.segments;
  numbers = length-set t.table g x ∙ are.numbers;
  formed = λ h group at. elim (same_or_not h g) [
    | inl e ↦ formed group (sym (group_same t g x within) ∙ ap (group_at (with_group t g x)) (sym e) ∙ at)
    | inr ne ↦ are.formed h group (sym (group_other t g h x ne) ∙ at)
  ];
  apart = apart_of (with_group t g x) o agree;
}

-- a drive more leaves the rows of the others
row_kept : (o : Owners) (d : ℕ) → d < length o.rows → owner_row (with_drive o) d ≡ owner_row o d
row_kept o d within =
    unwrap_or-slice_get (o.rows ++ replicate o.extents None ∷ []) d []
    ∙ get_or_append_left o.rows (replicate o.extents None ∷ []) [] d within
    ∙ sym (unwrap_or-slice_get o.rows d [])

-- and its own row is free throughout
row_added : (o : Owners) → owner_row (with_drive o) (length o.rows) ≡ replicate o.extents None
row_added o = unwrap_or-slice_get (o.rows ++ replicate o.extents None ∷ []) (length o.rows) [] ∙ get_or_push o.rows (replicate o.extents None) [] (length o.rows) refl

-- what is owned then lies on a drive that was there
owned_before : (o : Owners) (d e g : ℕ) → owner_of (with_drive o) d e ≡ Some g → d < length o.rows
owned_before o d e g owned = elim (slice_get_cases (o.rows ++ replicate o.extents None ∷ []) d).1 [
  | inl there ↦ elim (same_or_not d (length o.rows)) [
    | inl last ↦
        (let row : owner_row (with_drive o) d ≡ replicate o.extents None = rw last (row_added o) in
        let none : None ≡ Some g = sym (ap (λ r. unwrap_or (slice_get r e) None) row ∙ none_of o.extents e) ∙ owned in
        absurd cc)
    | inr apart ↦ omega (arith, apart, there.1, length-append o.rows (replicate o.extents None ∷ []))
  ]
  | inr past ↦
      (let none : None ≡ Some g = sym (ap (λ r. unwrap_or (slice_get (unwrap_or r []) e) None) past.1) ∙ owned in
      absurd cc)
]

-- groups and owners agree with a drive more, all of whose extents are free
pub agree_more : (t : Groups) (o : Owners) → Agree t o → Agree t (with_drive o)
agree_more t o agree = record {
  owned = λ g k m at.
      let was = agree.owned g k m at in
      let row = row_kept o m.drive was.0.within in (
        record { within = omega (arith, was.0.within, length-append o.rows (replicate o.extents None ∷ [])); inside = was.0.inside },
        ap (λ r. unwrap_or (slice_get r m.extent) None) row ∙ was.1,
      );
  matches = λ g drive extent owned.
      let within = owned_before o drive extent g owned in
      agree.matches g drive extent (sym (ap (λ r. unwrap_or (slice_get r extent) None) (row_kept o drive within)) ∙ owned);
  wide = λ drive within. elim (same_or_not drive (length o.rows)) [
    | inl last ↦ rw last (ap (λ r. length r) (row_added o) ∙ length-replicate o.extents None)
    | inr apart ↦
        (let before : drive < length o.rows = omega (arith, apart, within, length-append o.rows (replicate o.extents None ∷ [])) in
        ap (λ r. length r) (row_kept o drive before) ∙ agree.wide drive before)
  ];
}
