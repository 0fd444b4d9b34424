-- What reads and writes of a site leave, as what they leave of every slot.
use Rattle.std.proofs.Common.{◌≡◌, ◌≢◌, ℕ, ◌<◌, inl, inr, Bool, true, false, Option, Some, None, List, length, refl, sym, ◌∙◌, ap, subst}
use Rattle.std.proofs.lemmas.Option.{same_Some, none-some}
use Rattle.extent_groups.specs.declared.place.Place.{Place}
use Rattle.extent_groups.specs.Groups.{Groups}
use Rattle.extent_groups.specs.Cells.{Cells, held}
use Rattle.extent_groups.specs.Units.{Site, Pair, InStripe, row_of, unit_at, unit_in, IsSoundAt, site_of}
use Rattle.extent_groups.specs.Calls.{FadesAt, if_ok, DidWrite}
use Rattle.extent_groups.specs.Layout.{IsOf, AreNearby, IsDriveDisjoint, IsLayout}
use Rattle.extent_groups.specs.Stores.{unit_bytes, unit_of, AreSound, KeepsUnits, KeepsOthers, KeepsAt, LeavesSites, IsOwn}
use Rattle.extent_groups.proofs.Places.{same_or_not}
use Rattle.extent_groups.proofs.Fading.{fades_trans, site_fades}
use Rattle.extent_groups.proofs.RowWrites.{WritesRow}

-- every unit that the drives hold has n bytes
abbrev pub AreSizedCells : ℕ → Cells → Type 0
AreSizedCells n c = (x : Place) (u : List ℕ) → held c x ≡ Some u → length u ≡ n

kept_in : (n : ℕ) (c new : Cells) (o : Option Site) → ((t : Site) → o ≡ Some t → KeepsAt n c new t) → (v : List ℕ) → unit_in n new o ≡ Some v → unit_in n c o ≡ Some v
kept_in n c new None h v e = absurd (none-some v e)
kept_in n c new (Some t) h v e = (h t refl).unit v e

-- where the places of all sites fade, with any contents of others, all slots are kept
pub slots_kept : (groups : Groups) (c new : Cells) → IsLayout groups → AreSizedCells (unit_bytes groups) c → AreSound groups c
    → ((slot : ℕ) (t : Site) (x : Place) → site_of groups slot ≡ Some t → IsOf t x → FadesAt c new x) → KeepsUnits groups c new × AreSound groups new
slots_kept groups c new layout sized sound fades =
    let each : (slot : ℕ) (t : Site) → site_of groups slot ≡ Some t → KeepsAt (unit_bytes groups) c new t =
    λ slot t at. site_fades (unit_bytes groups) c new t sized (layout.whole slot t at) (λ x of. fades slot t x at of) (sound slot t at) in (
      λ slot v e. kept_in (unit_bytes groups) c new (site_of groups slot) (each slot) v e,
      λ slot t at. (each slot t at).sound,
    )

-- where all fades, all slots are kept
pub slots_fade : (groups : Groups) (c new : Cells) → IsLayout groups → AreSizedCells (unit_bytes groups) c → AreSound groups c → ((x : Place) → FadesAt c new x)
    → KeepsUnits groups c new × AreSound groups new
slots_fade groups c new layout sized sound fades = slots_kept groups c new layout sized sound (λ slot t x at of. fades x)

-- a site that all fades on leaves all sites
pub fades_leave : (n : ℕ) (c new : Cells) (site : Site) → AreSizedCells n c → IsDriveDisjoint site → IsSoundAt n c site → ((x : Place) → FadesAt c new x) → LeavesSites n c new site
fades_leave n c new site sized whole sound fades = record {
  sound = (site_fades n c new site sized whole (λ x _. fades x) sound).sound;
  others = λ t is _ ok. site_fades n c new t sized is (λ x _. fades x) ok;
}

other_kept : (groups : Groups) (c new : Cells) (slot other : ℕ) (site t : Site) → IsLayout groups → AreSound groups c → site_of groups slot ≡ Some site → LeavesSites (unit_bytes groups) c new site
    → other ≢ slot → site_of groups other ≡ Some t → KeepsAt (unit_bytes groups) c new t
other_kept groups c new slot other site t layout sound at leaves ne there =
    leaves.others t (layout.whole other t there) (layout.apart slot other site t (λ e. ne (sym e)) at there) (sound other t there)

-- a slot whose site was written leaves all slots
pub slot_leaves : (groups : Groups) (c new : Cells) (slot : ℕ) (site : Site) → IsLayout groups → AreSound groups c → site_of groups slot ≡ Some site → LeavesSites (unit_bytes groups) c new site
    → KeepsOthers groups c new slot × AreSound groups new
slot_leaves groups c new slot site layout sound at leaves = (
  λ other v ne e. kept_in (unit_bytes groups) c new (site_of groups other) (λ t there. other_kept groups c new slot other site t layout sound at leaves ne there) v e,
  λ other t there. elim (same_or_not other slot) [
    | inl e ↦ subst (IsSoundAt (unit_bytes groups) new) (same_Some _ _ (sym at ∙ ap (site_of groups) (sym e) ∙ there)) leaves.sound
    | inr ne ↦ (other_kept groups c new slot other site t layout sound at leaves ne there).sound
  ],
)

-- the unit of a slot is that of its site
pub unit_at_site : (groups : Groups) (c : Cells) (slot : ℕ) (site : Site) → site_of groups slot ≡ Some site → unit_of groups c slot ≡ unit_at (unit_bytes groups) c site
unit_at_site groups c slot site at = ap (unit_in (unit_bytes groups) c) at

pub ok_is : (b : Bool) (u v : List ℕ) → if_ok b u ≡ Some v → u ≡ v
ok_is true u v e = same_Some u v e
ok_is false u v e = absurd (none-some v e)

pub pair_leaves : (n : ℕ) (c one two : Cells) (p q : Place) (u : List ℕ) (a b : Bool) → p.drive ≢ q.drive → AreSizedCells n c → DidWrite c one p u a → DidWrite one two q u b
    → LeavesSites n c two (Pair p q)
pair_leaves n c one two p q u a b drives sized first second = record {
  sound = λ v w ev ew. sym (ok_is a u v (sym (second.elsewhere p drives ∙ first.here) ∙ ev)) ∙ ok_is b u w (sym second.here ∙ ew);
  others = λ t whole nearby sound. elim nearby [
    | inl apart ↦ site_fades n c two t sized whole
        (λ x of. fades_trans (held c x) (held one x) (held two x) (first.nearby x (λ e. apart x (inl e) of)) (second.nearby x (λ e. apart x (inr e) of))) sound
    | inr never ↦ absurd never
  ];
}

own_is_of : (row : List Place) (p i : ℕ) (x : Place) → IsOwn (InStripe row p i) x → IsOf (InStripe row p i) x
own_is_of row p i x (inl e) = (i, e)
own_is_of row p i x (inr e) = (p, e)

-- the other members of a written row
nearby_kept : (n : ℕ) (c new : Cells) (row : List Place) (p i : ℕ) (u : List ℕ) → WritesRow n (length row) (row_of c row) (row_of new row) i p u → IsSoundAt n c (InStripe row p i)
    → (t : Site) → IsDriveDisjoint t → AreNearby (InStripe row p i) t → KeepsAt n c new t
nearby_kept n c new row p i u writes sound (Pair a b) whole never = absurd never
nearby_kept n c new row p i u writes sound (InStripe other wanders j) whole nearby =
    let low : j < length row = subst (λ r. j < length r) nearby.0 whole.0 in
    let ne : j ≢ p = λ e. whole.2 (e ∙ sym nearby.1) in
    subst (λ r. KeepsAt n c new (InStripe r wanders j)) (sym nearby.0)
    (record { unit = writes.others sound j low nearby.2 ne; sound = writes.sound sound })

pub stripe_leaves : (n : ℕ) (c new : Cells) (row : List Place) (p i : ℕ) (u : List ℕ) → AreSizedCells n c → WritesRow n (length row) (row_of c row) (row_of new row) i p u
    → IsSoundAt n c (InStripe row p i) → ((x : Place) → (IsOwn (InStripe row p i) x → ⊥) → FadesAt c new x) → LeavesSites n c new (InStripe row p i)
stripe_leaves n c new row p i u sized writes sound fades = record {
  sound = writes.sound sound;
  others = λ t whole nearby ok. elim nearby [
    | inl apart ↦ site_fades n c new t sized whole (λ x of. fades x (λ own. apart x (own_is_of row p i x own) of)) ok
    | inr are ↦ nearby_kept n c new row p i u writes sound t whole are
  ];
}
