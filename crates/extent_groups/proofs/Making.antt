-- A group is made on extents that were wiped, or dissolved: which slots keep their units, and what the new ones hold.
use Rattle.std.proofs.Common.{◌≡◌, ◌≢◌, ℕ, ◌*◌, ◌/◌, ◌%◌, ◌<◌, ◌≤◌, inl, inr, Option, Some, None, List, length, sym, ◌∙◌, ap, subst, arith}
use Rattle.std.specs.Prelude.{slice_get, replicate}
use Rattle.std.proofs.lemmas.Option.{none-some}
use Rattle.extents.specs.Owners.{Owners, owner_of}
use Rattle.extent_groups.specs.declared.class.Member.{Member}
use Rattle.extent_groups.specs.declared.place.Place.{Place}
use Rattle.extent_groups.specs.Groups.{Group, Groups, group_at, members_in, members_of, with_group, AreGroups, Agree}
use Rattle.extent_groups.specs.Cells.{Cells, held}
use Rattle.extent_groups.specs.Units.{Site, unit_at, unit_in, site_of, site_of_index, place_of, IsSoundAt}
use Rattle.extent_groups.specs.Layout.{IsOf}
use Rattle.extent_groups.specs.Stores.{unit_bytes, unit_of, AreSound, AreDrives}
use Rattle.extent_groups.proofs.Places.{same_or_not}
use Rattle.extent_groups.proofs.Blank.{blank_site, blank_in}
use Rattle.extent_groups.proofs.GroupsLemmas.{group_same, group_other}
use Rattle.extent_groups.proofs.Agreement.{members_same, members_other}
use Rattle.extent_groups.proofs.LayoutLaw.{lies, slot_of, one_address}

-- the slots of other groups lie where they lay
pub site_other : (t : Groups) (g : ℕ) (x : Option Group) (slot : ℕ) → slot / 128 ≢ g → site_of (with_group t g x) slot ≡ site_of t slot
site_other t g x slot ne = ap (λ o. site_of_index t.segments o (slot % 128)) (group_other t g (slot / 128) x ne)

-- a group whose sites are blank is made: all is sound, other groups' slots have the units that they had, and its own are blank
pub put_keeps : (t : Groups) (g : ℕ) (group : Group) (c : Cells) → AreSound t c
    → ((slot : ℕ) (site : Site) (x : Place) (u : List ℕ) → slot / 128 ≡ g → site_of (with_group t g (Some group)) slot ≡ Some site → IsOf site x → held c x ≡ Some u → u ≡ replicate (unit_bytes t) 0)
    → AreSound (with_group t g (Some group)) c
    × ((slot : ℕ) → slot / 128 ≢ g → unit_of (with_group t g (Some group)) c slot ≡ unit_of t c slot)
    × ((slot : ℕ) (v : List ℕ) → slot / 128 ≡ g → unit_of (with_group t g (Some group)) c slot ≡ Some v → v ≡ replicate (unit_bytes t) 0)
put_keeps t g group c sound blank =
    let n = unit_bytes t in
    let here : (slot : ℕ) (site : Site) → slot / 128 ≡ g → site_of (with_group t g (Some group)) slot ≡ Some site → IsSoundAt n c site × ((v : List ℕ) → unit_at n c site ≡ Some v → v ≡ replicate n 0) =
    λ slot site q at. blank_site n c site (λ p of u e. blank slot site p u q at of e) in (
      λ slot site at. elim (same_or_not (slot / 128) g) [
        | inl q ↦ (here slot site q at).0
        | inr ne ↦ sound slot site (sym (site_other t g (Some group) slot ne) ∙ at)
      ],
      λ slot ne. ap (unit_in n c) (site_other t g (Some group) slot ne),
      λ slot v q e. blank_in n c (site_of (with_group t g (Some group)) slot) (λ site at. (here slot site q at).1) v e,
    )

-- a group is dissolved: all is sound, other groups' slots have the units that they had, and its own have none
pub take_keeps : (t : Groups) (g : ℕ) (c : Cells) → g < length t.table → AreSound t c
    → AreSound (with_group t g None) c
    × ((slot : ℕ) → slot / 128 ≢ g → unit_of (with_group t g None) c slot ≡ unit_of t c slot)
    × ((slot : ℕ) → slot / 128 ≡ g → unit_of (with_group t g None) c slot ≡ None)
take_keeps t g c within sound = (
  λ slot site at. elim (same_or_not (slot / 128) g) [
    | inl q ↦ absurd (none-some site (sym (gone slot q) ∙ at))
    | inr ne ↦ sound slot site (sym (site_other t g None slot ne) ∙ at)
  ],
  λ slot ne. ap (unit_in (unit_bytes t) c) (site_other t g None slot ne),
  λ slot q. ap (unit_in (unit_bytes t) c) (gone slot q),
) where
  gone : (slot : ℕ) → slot / 128 ≡ g → site_of (with_group t g None) slot ≡ None
  gone slot q = ap (λ h. site_of_index t.segments (group_at (with_group t g None) h) (slot % 128)) q ∙ ap (λ o. site_of_index t.segments o (slot % 128)) (group_same t g None within)

-- the drives are those of the groups with another group under a number, or none, whose members are extents of the drives
pub drives_with : {D : Type 0} {units : D → List (List ℕ)} (t : Groups) (g : ℕ) (x : Option Group) (ds : List D) → g < length t.table → AreDrives units t ds
    → ((k : ℕ) (m : Member) → slice_get (members_in x) k ≡ Some m → (m.drive < length ds) × (m.extent < t.extents)) → AreDrives units (with_group t g x) ds
drives_with t g x ds within are there = record {
  many = are.many;
  sized = are.sized;
  there = λ h k m at. elim (same_or_not h g) [
    | inl q ↦ there k m (subst (λ ms. slice_get ms k ≡ Some m) (ap (members_of (with_group t g x)) q ∙ members_same t g x within) at)
    | inr ne ↦ are.there h k m (subst (λ ms. slice_get ms k ≡ Some m) (members_other t g h x ne) at)
  ];
}

-- no slot lies on an extent that no group owns
pub free_apart : (t : Groups) (o : Owners) (m : Member) (offset slot : ℕ) (site : Site) → AreGroups t → Agree t o → owner_of o m.drive m.extent ≡ None → offset < 2 * t.segments
    → site_of t slot ≡ Some site → IsOf site (place_of t.segments offset m) → ⊥
free_apart t o m offset slot site are agree free low at of =
    let is = slot_of t.segments (group_at t (slot / 128)) (slot % 128) site at in
    let formed = are.formed (slot / 128) is.group is.made in
    let two : 2 ≤ length is.group.members = omega (arith, formed.enough) in
    let l = lies t.segments is.group.class is.group.members (slot % 128) (place_of t.segments offset m) two is.below (subst (λ z. IsOf z (place_of t.segments offset m)) (sym is.site) of) in
    let drive : m.drive ≡ l.member.drive = ap (λ (x : Place). x.drive) l.is in
    let extent = (one_address (2 * t.segments) m.extent l.member.extent offset l.offset (ap (λ (x : Place). x.address) l.is) low l.low).0 in
    let owned = (agree.owned (slot / 128) l.number l.member (subst (λ ms. slice_get ms l.number ≡ Some l.member) (sym (ap members_in is.made)) l.there)).1 in
    none-some (slot / 128) (sym free ∙ ap (λ d. owner_of o d m.extent) drive ∙ ap (λ e. owner_of o l.member.drive e) extent ∙ owned)
