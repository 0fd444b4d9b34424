-- Drives that calls don't use: one call after another, and on which drives the places of a slot lie.
use Rattle.std.proofs.Common.{◌≡◌, ℕ, ◌/◌, ◌%◌, ◌≤◌, Some, List, length, sym, ◌∙◌, ap, subst, arith}
use Rattle.std.specs.Prelude.{slice_get}
use Rattle.extent_groups.specs.declared.place.Place.{Place}
use Rattle.extent_groups.specs.Groups.{Groups, AreGroups, group_at, members_in, members_of}
use Rattle.extent_groups.specs.Calls.{SameBut}
use Rattle.extent_groups.specs.Layout.{IsOf}
use Rattle.extent_groups.specs.Stores.{HasMemberOn}
use Rattle.extent_groups.specs.Units.{Site, places_of, site_of}
use Rattle.extent_groups.proofs.LayoutLaw.{lies, slot_of, row_member}

pub same_trans : {D : Type 0} {used : ℕ → Type 0} (a b c : List D) → SameBut used a b → SameBut used b c → SameBut used a c
same_trans a b c one two d apart = two d apart ∙ one d apart

-- drives that are the same but for the used ones are the same but for any more
pub same_more : {D : Type 0} {used more : ℕ → Type 0} (a b : List D) → ((d : ℕ) → used d → more d) → SameBut used a b → SameBut more a b
same_more a b into same d apart = same d (λ u. apart (into d u))

-- each place of a slot is on the drive of one of its group's members
pub site_member : (t : Groups) (slot : ℕ) (site : Site) (x : Place) → AreGroups t → site_of t slot ≡ Some site → IsOf site x → HasMemberOn t (slot / 128) x.drive
site_member t slot site x are at of =
    let is = slot_of t.segments (group_at t (slot / 128)) (slot % 128) site at in
    let two : 2 ≤ length is.group.members = omega (arith, (are.formed (slot / 128) is.group is.made).enough) in
    let l = lies t.segments is.group.class is.group.members (slot % 128) x two is.below (subst (λ z. IsOf z x) (sym is.site) of) in
    (l.number, l.member, subst (λ ms. slice_get ms l.number ≡ Some l.member) (sym (ap members_in is.made)) l.there, sym (ap (λ (y : Place). y.drive) l.is))

-- and so is each place of a row
pub row_drive : (t : Groups) (g o k : ℕ) (x : Place) → slice_get (places_of t.segments (members_of t g) o) k ≡ Some x → HasMemberOn t g x.drive
row_drive t g o k x at = let r = row_member t.segments (members_of t g) o k x at in (k, _, r.0, sym (ap (λ (y : Place). y.drive) r.1))
