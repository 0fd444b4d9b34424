-- The drives have each place of a slot.
use Rattle.std.proofs.Common.{◌≡◌, ℕ, ◌+◌, ◌*◌, ◌/◌, ◌%◌, ◌<◌, ◌≤◌, Some, List, length, sym, ap, subst, arith}
use Rattle.std.specs.Prelude.{slice_get}
use Rattle.std.proofs.Math.Nat.{mul-le-mul_right}
use Rattle.extent_groups.specs.declared.class.Member.{Member}
use Rattle.extent_groups.specs.declared.place.Place.{Place}
use Rattle.extent_groups.specs.Groups.{Groups, group_at, members_in, members_of, AreGroups}
use Rattle.extent_groups.specs.Units.{Site, place_of, places_of, site_of}
use Rattle.extent_groups.specs.Layout.{IsOf}
use Rattle.extent_groups.specs.Calls.{IsPlace}
use Rattle.extent_groups.specs.Stores.{AreDrives}
use Rattle.extent_groups.specs.Wiping.{HasExtent}
use Rattle.extent_groups.proofs.LayoutLaw.{lies, slot_of, row_member}

-- the drives have each place of an extent of one of them
pub extent_there : {D : Type 0} (units : D → List (List ℕ)) (t : Groups) (drives : List D) (m : Member) → AreDrives units t drives → m.drive < length drives → m.extent < t.extents → HasExtent units t.segments drives m
extent_there units t drives m are within inside o low =
    let more : m.extent + 1 ≤ t.extents = omega (arith, inside) in
    record { inside = within; low = λ x ex. omega (arith, low, are.many m.drive x ex, mul-le-mul_right (2 * t.segments) more) }

-- and so each place of a member
pub member_there : {D : Type 0} (units : D → List (List ℕ)) (t : Groups) (drives : List D) (g k o : ℕ) (m : Member) → AreDrives units t drives
    → slice_get (members_of t g) k ≡ Some m → o < 2 * t.segments → IsPlace units drives (place_of t.segments o m)
member_there units t drives g k o m are at low = let there = are.there g k m at in extent_there units t drives m are there.0 there.1 o low

-- the drives have each place of a slot
pub site_places : {D : Type 0} (units : D → List (List ℕ)) (t : Groups) (drives : List D) (slot : ℕ) (site : Site) → AreGroups t → AreDrives units t drives → site_of t slot ≡ Some site
    → (x : Place) → IsOf site x → IsPlace units drives x
site_places units t drives slot site are drive e x of =
    let is = slot_of t.segments (group_at t (slot / 128)) (slot % 128) site e in
    let formed = are.formed (slot / 128) is.group is.made in
    let two : 2 ≤ length is.group.members = omega (arith, formed.enough) in
    let l = lies t.segments is.group.class is.group.members (slot % 128) x two is.below (subst (λ z. IsOf z x) (sym is.site) of) in
    subst (IsPlace units drives) (sym l.is)
    (member_there units t drives (slot / 128) l.number l.offset l.member drive (subst (λ ms. slice_get ms l.number ≡ Some l.member) (sym (ap members_in is.made)) l.there) l.low)

-- the drives have each place of a row of a group's members
pub row_places : {D : Type 0} (units : D → List (List ℕ)) (t : Groups) (drives : List D) (g o : ℕ) → AreDrives units t drives → o < 2 * t.segments
    → (k : ℕ) (x : Place) → slice_get (places_of t.segments (members_of t g) o) k ≡ Some x → IsPlace units drives x
row_places units t drives g o are low k x at =
    let r = row_member t.segments (members_of t g) o k x at in
    subst (IsPlace units drives) (sym r.1) (member_there units t drives g k o _ are r.0 low)
