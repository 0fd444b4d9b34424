-- Groups and owners agree after a member is swapped for an extent that is free.
use Rattle.std.proofs.Common.{◌≡◌, ◌≢◌, ℕ, ◌<◌, ◌⊎◌, inl, inr, false, Some, None, List, length, sym, ◌∙◌, ap, subst}
use Rattle.std.specs.Prelude.{slice_get, slice_set}
use Rattle.std.proofs.lemmas.List.{length-set}
use Rattle.std.proofs.lemmas.Option.{same_Some, slice_get_within}
use Rattle.extents.specs.Owners.{Owners, owner_of, with_owner, IsExtent}
use Rattle.extent_groups.specs.declared.class.Member.{Member}
use Rattle.extent_groups.specs.Faults.{is_on}
use Rattle.extent_groups.specs.Groups.{Group, Groups, group_at, members_in, members_of, with_group, IsFormed, Agree, with_member}
use Rattle.extent_groups.proofs.Places.{get-set_same, get-set_other, same_or_not}
use Rattle.extent_groups.proofs.OwnersLemmas.{owner_same, owner_other, extent_stays, wide_stays}
use Rattle.extent_groups.proofs.GroupsLemmas.{not_on}
use Rattle.extent_groups.proofs.Agreement.{members_same, members_other, one_owner, owned_or_free}

-- members with one of them swapped for an extent of a drive that none is on
pub formed_swap : (ms : List Member) (k : ℕ) (to : Member) → IsFormed ms → is_on to.drive ms ≡ false → IsFormed (slice_set ms k to)
formed_swap ms k to formed away = record {
  enough = rw length-set formed.enough;
  few = rw length-set formed.few;
  spread = λ i j a b at bt e. elim (same_or_not i k) [
    | inl p ↦ elim (same_or_not j k) [
      | inl q ↦ p ∙ sym q
      | inr q ↦ absurd (not_on to.drive ms j b away (sym (get-set_other ms k j to q) ∙ bt) (sym e ∙ sym (is_to ms k i to a p at)))
    ]
    | inr p ↦ elim (same_or_not j k) [
      | inl q ↦ absurd (not_on to.drive ms i a away (sym (get-set_other ms k i to p) ∙ at) (e ∙ sym (is_to ms k j to b q bt)))
      | inr q ↦ formed.spread i j a b (sym (get-set_other ms k i to p) ∙ at) (sym (get-set_other ms k j to q) ∙ bt) e
    ]
  ];
} where
  is_to : (ms : List Member) (k i : ℕ) (to a : Member) → i ≡ k → slice_get (slice_set ms k to) i ≡ Some a → to.drive ≡ a.drive
  is_to ms k i to a p at =
      let there = subst (λ n. slice_get (slice_set ms k to) n ≡ Some a) p at in
      let inside : k < length ms = rw length-set at (slice_get_within (slice_set ms k to) k a there) in
      ap (λ (m : Member). m.drive) (same_Some to a (sym (get-set_same ms k to inside) ∙ there))

-- what a member that isn't swapped keeps: its extent is neither of the two
pub kept_owner : (o : Owners) (was to m : Member) (g h : ℕ) → IsExtent o was.drive was.extent → IsExtent o to.drive to.extent → owner_of o m.drive m.extent ≡ Some h
    → owner_of o to.drive to.extent ≡ None → (m.drive ≡ was.drive → m.extent ≡ was.extent → ⊥)
    → owner_of (with_owner (with_owner o was.drive was.extent None) to.drive to.extent (Some g)) m.drive m.extent ≡ Some h
kept_owner o was to m g h there here owned free nearby =
    owner_other (with_owner o was.drive was.extent None) to.drive to.extent m.drive m.extent (Some g) (extent_stays o was.drive was.extent to.drive to.extent None here).within
    (owned_or_free o m to h owned free)
    ∙ owner_other o was.drive was.extent m.drive m.extent None there.within nearby
    ∙ owned

-- two extents are one or not
one_or_two : (x y : ℕ) (m : Member) → ((x ≡ m.drive) × (y ≡ m.extent)) ⊎ (x ≡ m.drive → y ≡ m.extent → ⊥)
one_or_two x y m = elim (same_or_not x m.drive) [
  | inl p ↦ elim (same_or_not y m.extent) [ inl q ↦ inl (p, q) | inr q ↦ inr (λ _ e. q e) ]
  | inr p ↦ inr (λ d _. p d)
]

-- a member named by its parts
pub named : (x y : ℕ) (m : Member) → x ≡ m.drive → y ≡ m.extent → Some m ≡ Some (record { drive = x; extent = y })
named x y m p q =
    ap (λ d. let a : Member = record { drive = d; extent = m.extent } in Some a) (sym p)
    ∙ ap (λ e. let a : Member = record { drive = x; extent = e } in Some a) (sym q)

pub agree_swap : (t : Groups) (o : Owners) (g k : ℕ) (group : Group) (was to : Member) → Agree t o → g < length t.table → group_at t g ≡ Some group
    → IsFormed group.members → slice_get group.members k ≡ Some was → IsExtent o to.drive to.extent → owner_of o to.drive to.extent ≡ None
    → Agree (with_group t g (Some (with_member group k to))) (with_owner (with_owner o was.drive was.extent None) to.drive to.extent (Some g))
agree_swap t o g k group was to agree within made formed at_k here free =
    let mine : (j : ℕ) (m : Member) → slice_get group.members j ≡ Some m → slice_get (members_of t g) j ≡ Some m = λ j m at. subst (λ ms. slice_get ms j ≡ Some m) (sym (ap members_in made)) at in
    let was_there = (agree.owned g k was (mine k was at_k)).0 in
    let to_there = extent_stays o was.drive was.extent to.drive to.extent None here in
    let wide = wide_stays o was.drive was.extent None agree.wide was_there.within in
    let inside : k < length group.members = slice_get_within group.members k was at_k in
    let stays : (m : Member) → IsExtent o m.drive m.extent → IsExtent (with_owner (with_owner o was.drive was.extent None) to.drive to.extent (Some g)) m.drive m.extent =
    λ m x. extent_stays (with_owner o was.drive was.extent None) to.drive to.extent m.drive m.extent (Some g) (extent_stays o was.drive was.extent m.drive m.extent None x) in
    let now = members_same t g (Some (with_member group k to)) within in
    record {
      owned = λ h j m at. elim (same_or_not h g) [
        | inl e ↦
            (let mid = subst (λ ms. slice_get ms j ≡ Some m) (ap (members_of (with_group t g (Some (with_member group k to)))) e ∙ now) at in
            elim (same_or_not j k) [
              | inl q ↦
                  (let is : to ≡ m = same_Some to m (sym (get-set_same group.members k to inside) ∙ subst (λ n. slice_get (slice_set group.members k to) n ≡ Some m) q mid) in
                  subst (λ (n : Member). IsExtent (with_owner (with_owner o was.drive was.extent None) to.drive to.extent (Some g)) n.drive n.extent
                  × (owner_of (with_owner (with_owner o was.drive was.extent None) to.drive to.extent (Some g)) n.drive n.extent ≡ Some h)) is
                  (stays to here, owner_same (with_owner o was.drive was.extent None) to.drive to.extent (Some g) wide to_there ∙ ap (λ n. Some n) (sym e)))
              | inr q ↦
                  (let old = sym (get-set_other group.members k j to q) ∙ mid in
                  let had = agree.owned g j m (mine j m old) in
                  (stays m had.0, kept_owner o was to m g g was_there here had.1 free (λ d _. q (formed.spread j k m was old at_k d)) ∙ ap (λ n. Some n) (sym e)))
            ])
        | inr ne ↦
            (let old = subst (λ ms. slice_get ms j ≡ Some m) (members_other t g h (Some (with_member group k to)) ne) at in
            let had = agree.owned h j m old in (
              stays m had.0,
              kept_owner o was to m g h was_there here had.1 free
                  (λ d x. ne (one_owner o m was h g had.1 (agree.owned g k was (mine k was at_k)).1 d x)),
            ))
      ];
      matches = λ h x y owned. elim (one_or_two x y to) [
        | inl both ↦
            (let to_owner = owner_same (with_owner o was.drive was.extent None) to.drive to.extent (Some g) wide to_there in
            let moved : owner_of (with_owner (with_owner o was.drive was.extent None) to.drive to.extent (Some g)) to.drive to.extent ≡ Some h =
            ap (λ d. owner_of (with_owner (with_owner o was.drive was.extent None) to.drive to.extent (Some g)) d to.extent) (sym both.0)
            ∙ ap (λ e. owner_of (with_owner (with_owner o was.drive was.extent None) to.drive to.extent (Some g)) x e) (sym both.1) ∙ owned in
            let same : g ≡ h = same_Some _ _ (sym to_owner ∙ moved) in (
              k,
              subst (λ ms. slice_get ms k ≡ Some (record { drive = x; extent = y })) (sym now ∙ ap (members_of (with_group t g (Some (with_member group k to)))) same)
                  (get-set_same group.members k to inside ∙ named x y to both.0 both.1),
            ))
        | inr apart ↦
            (let before : owner_of (with_owner o was.drive was.extent None) x y ≡ Some h =
            sym (owner_other (with_owner o was.drive was.extent None) to.drive to.extent x y (Some g) to_there.within apart) ∙ owned in
            elim (one_or_two x y was) [
              | inl both ↦
                  (let gone : None ≡ Some h =
                  sym (owner_same o was.drive was.extent None agree.wide was_there)
                  ∙ ap (λ d. owner_of (with_owner o was.drive was.extent None) d was.extent) (sym both.0)
                  ∙ ap (λ e. owner_of (with_owner o was.drive was.extent None) x e) (sym both.1) ∙ before in
                  absurd cc)
              | inr nearby ↦
                  (let old = agree.matches h x y (sym (owner_other o was.drive was.extent x y None was_there.within nearby) ∙ before) in
                  elim (same_or_not h g) [
                    | inl e ↦
                        (let had = subst (λ ms. slice_get ms old.0 ≡ Some (record { drive = x; extent = y })) (ap (members_of t) e ∙ ap members_in made) old.1 in
                        let other : old.0 ≢ k = λ q.
                        (let is : record { drive = x; extent = y } ≡ was = same_Some _ _ (sym had ∙ subst (λ n. slice_get group.members n ≡ Some was) (sym q) at_k) in
                        nearby (ap (λ (m : Member). m.drive) is) (ap (λ (m : Member). m.extent) is)) in (
                          old.0,
                          subst (λ ms. slice_get ms old.0 ≡ Some (record { drive = x; extent = y }))
                              (sym now ∙ ap (members_of (with_group t g (Some (with_member group k to)))) (sym e)) (get-set_other group.members k old.0 to other ∙ had),
                        ))
                    | inr ne ↦
                        (old.0, subst (λ ms. slice_get ms old.0 ≡ Some (record { drive = x; extent = y })) (sym (members_other t g h (Some (with_member group k to)) ne)) old.1)
                  ])
            ])
      ];
      wide = wide_stays (with_owner o was.drive was.extent None) to.drive to.extent (Some g) wide to_there.within;
    }
