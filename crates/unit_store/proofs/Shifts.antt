-- A group's member was moved onto another extent, or wasn't: what the parts are then.
use Rattle.std.proofs.Common.{◌≡◌, ℕ, ◌%◌, ◌<◌, ◌≤◌, inl, inr, Bool, true, false, Option, Some, None, List, [], ◌∷◌, length, refl, sym, ◌∙◌, ap, subst, arith, get_or}
use Rattle.std.specs.Prelude.{slice_get, slice_set, Result, Ok, Err, OnOk, IfErr}
use Rattle.std.proofs.lemmas.Option.{same_Some, none-some, slice_get-get_or, slice_get_within}
use Rattle.extents.specs.Failures.{Failures}
use Rattle.extents.specs.Owners.{Owners, owner_of, with_owner, IsExtent}
use Rattle.extents.specs.Shapes.{IsShapeOf}
use Rattle.extents.specs.Sizes.{extent_units}
use Rattle.flat_machine.specs.declared.refusal.Refusal.{Refusal}
use Rattle.flat_machine.specs.Flat.{Stored}
use Rattle.flat_machine.specs.Moves.{IsUnrecoverable, IsBeyondOf}
use Rattle.extent_groups.specs.declared.class.Member.{Member}
use Rattle.extent_groups.specs.declared.place.Place.{Place}
use Rattle.extent_groups.specs.declared.refusal.GroupRefusal.{GroupRefusal}
use Rattle.extent_groups.specs.declared.refusal.GroupRefusal.TheVariants.{SameDrive, ExtentTaken}
use Rattle.extent_groups.specs.Faults.{is_on, is_owned, swap_fault}
use Rattle.extent_groups.specs.Groups.{Group, Groups, AreGroups, Agree, IsFormed, group_at, members_in, members_of, with_group, with_member, swapped_in, IsSwap, IsMove}
use Rattle.extent_groups.specs.Cells.{cells}
use Rattle.extent_groups.specs.Calls.{FadesAt, KeepsDrives}
use Rattle.extent_groups.specs.Layout.{IsOf}
use Rattle.extent_groups.specs.Missing.{missing_of}
use Rattle.extent_groups.specs.Moving.{IsCopied}
use Rattle.extent_groups.specs.Stores.{unit_of, AreSound, AreDrives, KeepsUnits}
use Rattle.extent_groups.specs.Units.{Site, place_of, site_of}
use Rattle.extent_groups.specs.Wiping.{IsInExtent}
use Rattle.extent_groups.proofs.Agreement.{groups_with}
use Rattle.extent_groups.proofs.GroupsLemmas.{not_on, not_owned}
use Rattle.extent_groups.proofs.Keeping.{check_passed}
use Rattle.extent_groups.proofs.LayoutLaw.{layout_law, lies}
use Rattle.extent_groups.proofs.Losses.{untouched_fades}
use Rattle.extent_groups.proofs.Making.{drives_with, free_apart}
use Rattle.extent_groups.proofs.Missing.{cell_missing}
use Rattle.extent_groups.proofs.Moving.{swap_keeps}
use Rattle.extent_groups.proofs.Places.{get-set_same, get-set_other, same_or_not}
use Rattle.extent_groups.proofs.Readiness.{rows_given, extents_given}
use Rattle.extent_groups.proofs.Sites.{extent_there}
use Rattle.extent_groups.proofs.SlotWrites.{slots_kept}
use Rattle.extent_groups.proofs.StoreCalls.{drives_kept, sized_cells}
use Rattle.extent_groups.proofs.Swapping.{formed_swap}
use Rattle.unit_store.specs.declared.parts.Parts.{Parts}
use Rattle.unit_store.specs.Fit.{IsFit}
use Rattle.unit_store.specs.Kept.{EachSlot, KeepsSlots}
use Rattle.unit_store.specs.Losses.{AllFare, KeepsTables}
use Rattle.unit_store.specs.Shifting.{IsRoute, AreOnTarget, KeepsUnused, IsWhyUnmoved, WasSwapped, WasNotSwapped}
use Rattle.unit_store.specs.Slots.{cells_in, missing_in}
use Rattle.unit_store.specs.Views.{view_of, Shows, Shifted, NotShifted}
use Rattle.unit_store.proofs.Calls.{shows_in, shows_out, same_tables, all_kept}
use Rattle.unit_store.proofs.Making.{still_fit}
use Rattle.unit_store.proofs.Offsets.{index_of}
use Rattle.unit_store.proofs.Outcomes.{group_there, group_below}
use Rattle.unit_store.proofs.Reading.{keeps_fare}
use Rattle.unit_store.proofs.Views.{view_lost, view_fares}

-- an extent for which no check of a swap fails is on another drive than all members, and nobody's
pub record IsOpen (o : Owners) (members : List Member) (to : Member) : Type 0 where
  pub away : is_on to.drive members ≡ false
  pub free : owner_of o to.drive to.extent ≡ None

pub open_to : (o : Owners) (group : Group) (x : Option Group) (to : Member) → x ≡ Some group → swap_fault o x to ≡ None → IsOpen o group.members to
open_to o group x to made fine =
    let passed = subst (λ y. swap_fault o y to ≡ None) made fine in
    let drives = check_passed (is_on to.drive group.members) SameDrive _ passed in
    let taken = check_passed (is_owned o to) ExtentTaken _ drives.1 in
    record { away = drives.0; free = not_owned o to taken.0 }

-- the member that is read by its number
pub number_of : (t : Groups) (g k : ℕ) (members : List Member) (other : Member) → members ≡ members_of t g → k < length (members_of t g) → slice_get (members_of t g) k ≡ Some (get_or members k other)
number_of t g k members other same inside = slice_get-get_or (members_of t g) k other inside ∙ ap (λ l. Some (get_or l k other)) (sym same)

-- the member may go onto that extent
pub route_of : {D : Type 0} (units : D → List (List ℕ)) (p : Parts D) (g k : ℕ) (was to : Member) → IsFit units p → slice_get (members_of p.groups g) k ≡ Some was → IsExtent p.extents to.drive to.extent
    → swap_fault p.extents (group_at p.groups g) to ≡ None → IsRoute units p.groups g k was to p.drives.items
route_of units p g k was to fit at there fine =
    let group = group_there (group_at p.groups g) k was at in
    let is = open_to p.extents group.0 (group_at p.groups g) to group.1 fine in
    record {
      groups_are = fit.groups;
      drives_are = fit.drives;
      member = at;
      there = extent_there units p.groups p.drives.items to fit.drives (omega (arith, there.within, fit.rows)) (omega (arith, there.inside, fit.wide));
      apart = λ e. not_on to.drive group.0.members k was is.away group.2 (sym e);
      clear = λ o slot site low at_site of. free_apart p.groups p.extents to o slot site fit.groups fit.agree is.free low at_site of;
    }

-- the same of a member that is read from the list of the group's
pub route_by : {D : Type 0} (units : D → List (List ℕ)) (p : Parts D) (g k : ℕ) (members : List Member) (to : Member) → IsFit units p → members ≡ members_of p.groups g → k < length (members_of p.groups g)
    → IsExtent p.extents to.drive to.extent → swap_fault p.extents (group_at p.groups g) to ≡ None → IsRoute units p.groups g k (get_or members k (record { drive = 0; extent = 0 })) to p.drives.items
route_by units p g k members to fit same inside there fine =
    route_of units p g k _ to fit (number_of p.groups g k members (record { drive = 0; extent = 0 }) same inside) there fine

-- what calls that touched the other extent alone leave of the slots, whose tables are as they were
pub record IsUnmoved {D : Type 0} (units : D → List (List ℕ)) (lost : D → Bool) (failures : D → Failures) (p w : Parts D) : Type 0 where
  pub keeps : AreSound p.groups (cells_in units lost p) → (slot : ℕ) (v : List ℕ) → unit_of w.groups (cells_in units lost w) slot ≡ Some v → unit_of p.groups (cells_in units lost p) slot ≡ Some v
  pub sound : AreSound p.groups (cells_in units lost p) → AreSound w.groups (cells_in units lost w)
  pub fares : AllFare lost failures p.drives.items w.drives.items
  pub fit : IsFit units w

pub unmoved : {D : Type 0} (units : D → List (List ℕ)) (lost : D → Bool) (failures : D → Failures) (p w : Parts D) (g k : ℕ) (was to : Member) → IsFit units p → IsRoute units p.groups g k was to p.drives.items
    → KeepsTables p w → KeepsDrives units lost failures (IsInExtent p.groups.segments to) p.drives.items w.drives.items → IsUnmoved units lost failures p w
unmoved units lost failures p w g k was to fit route tables keeps =
    let fades : (slot : ℕ) (site : Site) (x : Place) → site_of p.groups slot ≡ Some site → IsOf site x → FadesAt (cells_in units lost p) (cells_in units lost w) x =
    λ slot site x there of. untouched_fades keeps x (λ hit. route.clear hit.0 slot site hit.1 there (subst (IsOf site) hit.2 of)) in
    let kept : AreSound p.groups (cells_in units lost p) → KeepsUnits p.groups (cells_in units lost p) (cells_in units lost w) × AreSound p.groups (cells_in units lost w) =
    λ sound. slots_kept p.groups (cells_in units lost p) (cells_in units lost w) (layout_law p.groups fit.groups) (sized_cells units lost p.groups p.drives.items fit.drives) sound fades in
    record {
      keeps = λ sound slot v e. (kept sound).0 slot v (subst (λ t. unit_of t (cells_in units lost w) slot ≡ Some v) tables.groups e);
      sound = λ sound. subst (λ t. AreSound t (cells_in units lost w)) (sym tables.groups) (kept sound).1;
      fares = keeps_fare p.drives.items w.drives.items keeps;
      fit = still_fit p w w.drives.items fit tables.shape tables.groups tables.extents refl keeps;
    }

held_present : (b : Bool) → (b ≡ true → ⊥) → b ≡ false
held_present true h = absurd (h refl)
held_present false h = refl

-- all units of the member are on the other extent
pub record AreAllOn {D : Type 0} (units : D → List (List ℕ)) (lost : D → Bool) (t : Groups) (g k : ℕ) (was to : Member) (old new : List D) : Type 0 where
  pub present : missing_of lost new to.drive ≡ false
  pub had : IsUnrecoverable t (missing_of lost old) g was.drive → ⊥
  pub copied : AreSound t (cells units lost old) → IsCopied t g k was to (cells units lost old) (cells units lost new)
  pub unused : KeepsUnused t g k was to (cells units lost old) (cells units lost new) (missing_of lost new)

pub all_on : {D : Type 0} (units : D → List (List ℕ)) (lost : D → Bool) (failures : D → Failures) (t : Groups) (g k : ℕ) (was to : Member) (old new : List D) → IsRoute units t g k was to old
    → AreOnTarget units lost failures t g k was to (extent_units t.segments) old new → AreAllOn units lost t g k was to old new
all_on units lost failures t g k was to old new route all =
    let group = group_there (group_at t g) k was route.member in
    let formed : IsFormed group.0.members = route.groups_are.formed g group.0 group.1 in
    let some : 0 < extent_units t.segments = omega (arith, route.groups_are.segments.0) in
    let first = all.each 0 some in
    record {
      present = held_present (missing_of lost new to.drive)
          (λ gone. none-some first.unit (sym (cell_missing units lost (slice_get new to.drive) (place_of t.segments 0 to).address gone) ∙ first.there));
      had = λ beyond.
          (let x = index_of t g beyond.slot group.0 beyond.site group.1 beyond.group beyond.there in
          let two : 2 ≤ length group.0.members = omega (arith, formed.enough) in
          let place : Place = beyond.on.0 in
          let l = lies t.segments group.0.class group.0.members (beyond.slot % 128) place two x.below (subst (λ z. IsOf z place) (sym x.is) beyond.on.1) in
          let drive : l.member.drive ≡ was.drive = sym (ap (λ (y : Place). y.drive) l.is) ∙ beyond.on.2 in
          let number = formed.spread l.number k l.member was l.there group.2 drive in
          let same : l.member ≡ was = same_Some _ _ (sym l.there ∙ ap (slice_get group.0.members) number ∙ group.2) in
          let here : place ≡ place_of t.segments l.offset was = l.is ∙ ap (place_of t.segments l.offset) same in
          (all.each l.offset l.low).is.had beyond.slot beyond.site beyond.group beyond.there (subst (IsOf beyond.site) here beyond.on.1) beyond.lost beyond.gone);
      copied = λ sound. record {
        nearby = λ x apart. untouched_fades all.touched x apart;
        copied = λ slot o site u q there low of e.
            (let one = all.each o low in
            one.is.copied sound slot site q there of ∙ ap (λ v. Some v) (same_Some one.unit u (sym one.there ∙ e)));
      };
      unused = λ o low role.
          (let one = all.each o low in
          elim (one.is.unused role) [
            | inl e ↦ inl (one.there ∙ sym e)
            | inr e ↦ inr (e.0, one.there ∙ ap (λ v. Some v) e.1)
          ]);
    }

-- the parts fit, with the member swapped
swapped_fit : {D : Type 0} {units : D → List (List ℕ)} {lost : D → Bool} {failures : D → Failures} {touched : Place → Type 0} (p q : Parts D) (g k : ℕ) (group : Group) (was to : Member) → IsFit units p
    → group_at p.groups g ≡ Some group → slice_get group.members k ≡ Some was → IsExtent p.extents to.drive to.extent → is_on to.drive group.members ≡ false → q.shape ≡ p.shape
    → q.groups ≡ with_group p.groups g (Some (with_member group k to)) → q.extents ≡ with_owner (with_owner p.extents was.drive was.extent None) to.drive to.extent (Some g)
    → KeepsDrives units lost failures touched p.drives.items q.drives.items → Agree q.groups q.extents → IsFit units q
swapped_fit {units = units} p q g k group was to fit made at there away shape groups extents keeps agree =
    let many : length q.drives.items ≡ length p.drives.items = keeps.many in
    let t : Groups = with_group p.groups g (Some (with_member group k to)) in
    let agrees : Agree t q.extents = subst (λ y. Agree y q.extents) groups agree in
    let within : g < length p.groups.table = omega (arith, fit.groups.numbers, group_below p.groups g k was fit.groups (subst (λ x. slice_get (members_in x) k ≡ Some was) (sym made) at)) in
    let inside : k < length group.members = slice_get_within group.members k was at in
    let formed = formed_swap group.members k to (fit.groups.formed g group made) away in
    record {
      shape = subst (λ (t : Groups). IsShapeOf q.shape t.extents t.segments t.payload t.blocks) (sym groups)
          (subst (λ s. IsShapeOf s p.groups.extents p.groups.segments p.groups.payload p.groups.blocks) (sym shape) fit.shape);
      least = omega (arith, fit.least, many);
      most = omega (arith, fit.most, many);
      groups = subst AreGroups (sym groups)
          (groups_with p.groups q.extents g (Some (with_member group k to)) fit.groups agrees within (λ x e. subst (λ (y : Group). IsFormed y.members) (same_Some (with_member group k to) x e) formed));
      drives = subst (λ t. AreDrives units t q.drives.items) (sym groups)
          (drives_with p.groups g (Some (with_member group k to)) q.drives.items within (drives_kept p.groups keeps fit.drives)
          (λ j m at_j. elim (same_or_not j k) [
            | inl e ↦
                (let is : to ≡ m = same_Some to m (sym (get-set_same group.members k to inside) ∙ subst (λ n. slice_get (slice_set group.members k to) n ≡ Some m) e at_j) in
                subst (λ (n : Member). (n.drive < length q.drives.items) × (n.extent < p.groups.extents)) is (omega (arith, there.within, fit.rows, many), omega (arith, there.inside, fit.wide)))
            | inr ne ↦
                (let old : slice_get group.members j ≡ Some m = sym (get-set_other group.members k j to ne) ∙ at_j in
                let is = fit.drives.there g j m (subst (λ x. slice_get (members_in x) j ≡ Some m) (sym made) old) in
                (omega (arith, is.0, many), is.1))
          ]));
      agree = agree;
      rows = ap (λ (o : Owners). length o.rows) extents ∙ rows_given (with_owner p.extents was.drive was.extent None) (to ∷ []) (Some g) ∙ rows_given p.extents (was ∷ []) None ∙ fit.rows ∙ sym many;
      wide = ap (λ (o : Owners). o.extents) extents ∙ extents_given (with_owner p.extents was.drive was.extent None) (to ∷ []) (Some g) ∙ extents_given p.extents (was ∷ []) None ∙ fit.wide
          ∙ sym (ap (λ (y : Groups). y.extents) groups);
    }

-- what is left where the member was moved
pub record IsMoved {D : Type 0} (units : D → List (List ℕ)) (lost : D → Bool) (failures : D → Failures) (p q : Parts D) (g k : ℕ) (to : Member) : Type 0 where
  pub had : IsBeyondOf p.groups (missing_in lost p) g k → ⊥
  pub present : missing_in lost q to.drive ≡ false
  pub copied : (was : Member) → slice_get (members_of p.groups g) k ≡ Some was → AreSound p.groups (cells_in units lost p) → IsCopied p.groups g k was to (cells_in units lost p) (cells_in units lost q)
  pub unused : (was : Member) → slice_get (members_of p.groups g) k ≡ Some was → KeepsUnused p.groups g k was to (cells_in units lost p) (cells_in units lost q) (missing_in lost q)
  pub keeps : AreSound p.groups (cells_in units lost p) → (slot : ℕ) (v : List ℕ) → unit_of q.groups (cells_in units lost q) slot ≡ Some v → unit_of p.groups (cells_in units lost p) slot ≡ Some v
  pub sound : AreSound p.groups (cells_in units lost p) → AreSound q.groups (cells_in units lost q)
  pub fares : AllFare lost failures p.drives.items q.drives.items
  pub fit : IsFit units q

pub moved : {D : Type 0} (units : D → List (List ℕ)) (lost : D → Bool) (failures : D → Failures) (p q : Parts D) (g k : ℕ) (was to : Member) → IsFit units p → IsExtent p.extents to.drive to.extent
    → swap_fault p.extents (group_at p.groups g) to ≡ None → IsRoute units p.groups g k was to p.drives.items
    → AreOnTarget units lost failures p.groups g k was to (extent_units p.groups.segments) p.drives.items q.drives.items
    → q.shape ≡ p.shape → IsSwap p.groups q.groups g k to → IsMove p.groups p.extents q.extents g k to → Agree q.groups q.extents → IsMoved units lost failures p q g k to
moved {D = D} units lost failures p q g k was to fit there fine route all shape swap move agree =
    let group = group_there (group_at p.groups g) k was route.member in
    let is = open_to p.extents group.0 (group_at p.groups g) to group.1 fine in
    let done = all_on units lost failures p.groups g k was to p.drives.items q.drives.items route all in
    let one : (m : Member) → slice_get (members_of p.groups g) k ≡ Some m → was ≡ m = λ m at. same_Some was m (sym route.member ∙ at) in
    let groups : q.groups ≡ with_group p.groups g (Some (with_member group.0 k to)) = swap ∙ ap (λ x. with_group p.groups g (swapped_in x k to)) group.1 in
    let within : g < length p.groups.table = omega (arith, fit.groups.numbers, group_below p.groups g k was fit.groups route.member) in
    let t : Groups = with_group p.groups g (Some (with_member group.0 k to)) in
    let kept : AreSound p.groups (cells_in units lost p) → AreSound t (cells_in units lost q)
    × ((slot : ℕ) (v : List ℕ) → unit_of t (cells_in units lost q) slot ≡ Some v → unit_of p.groups (cells_in units lost p) slot ≡ Some v) =
    λ sound. swap_keeps p.groups p.extents g k group.0 was to (cells_in units lost p) (cells_in units lost q) fit.groups fit.agree within group.1 group.2 is.free
    (sized_cells units lost p.groups p.drives.items fit.drives) sound (done.copied sound) in
    record {
      had = λ beyond. done.had (subst (λ (m : Member). IsUnrecoverable p.groups (missing_in lost p) g m.drive) (sym (one beyond.0 beyond.1)) beyond.2);
      present = done.present;
      copied = λ m at. subst (λ z. AreSound p.groups (cells_in units lost p) → IsCopied p.groups g k z to (cells_in units lost p) (cells_in units lost q)) (one m at) done.copied;
      unused = λ m at. subst (λ z. KeepsUnused p.groups g k z to (cells_in units lost p) (cells_in units lost q) (missing_in lost q)) (one m at) done.unused;
      keeps = λ sound slot v e. (kept sound).1 slot v (subst (λ t. unit_of t (cells_in units lost q) slot ≡ Some v) groups e);
      sound = λ sound. subst (λ t. AreSound t (cells_in units lost q)) (sym groups) (kept sound).0;
      fares = keeps_fare p.drives.items q.drives.items all.touched;
      fit = swapped_fit p q g k group.0 was to fit group.1 group.2 there is.away shape groups (move was route.member) all.touched agree;
    }

ok_of : {T E P : Type 0} (r : Result T E) (f : Option E) → OnOk r P → IfErr r (λ e. f ≡ Some e) → f ≡ None → P
ok_of (Ok x) f p refused fine = p
ok_of (Err e) f p refused fine = absurd (none-some e (sym fine ∙ refused))

-- the units were put on the other extent, and then the tables changed
pub moved_on : {D : Type 0} (units : D → List (List ℕ)) (lost : D → Bool) (failures : D → Failures) (p w : Parts D) (t : Groups) (o : Owners) (g k : ℕ) (was to : Member) {T : Type 0} (r : Result T GroupRefusal)
    → IsFit units p → IsExtent p.extents to.drive to.extent → swap_fault p.extents (group_at p.groups g) to ≡ None → IsRoute units p.groups g k was to p.drives.items → KeepsTables p w
    → AreOnTarget units lost failures p.groups g k was to (extent_units p.groups.segments) p.drives.items w.drives.items
    → OnOk r (IsSwap w.groups t g k to) → OnOk r (IsMove w.groups w.extents o g k to) → IfErr r (λ e. swap_fault w.extents (group_at w.groups g) to ≡ Some e) → Agree t o
    → IsMoved units lost failures p (record { shape = w.shape; groups = t; extents = o; drives = w.drives; note = w.note }) g k to
moved_on {D = D} units lost failures p w t o g k was to r fit there fine route tables all swapped move refused agree =
    let same : swap_fault w.extents (group_at w.groups g) to ≡ None = ap (λ x. swap_fault x (group_at w.groups g) to) tables.extents ∙ ap (λ (x : Groups). swap_fault p.extents (group_at x g) to) tables.groups ∙ fine in
    let q : Parts D = record { shape = w.shape; groups = t; extents = o; drives = w.drives; note = w.note } in
    moved units lost failures p q g k was to fit there fine route all tables.shape
    (subst (λ x. IsSwap x t g k to) tables.groups (ok_of r _ swapped refused same))
    (subst (λ x. IsMove x p.extents o g k to) tables.groups (subst (λ y. IsMove w.groups y o g k to) tables.extents (ok_of r _ move refused same)))
    agree

-- units that are kept are shown, however the tables changed
still_shown : {D : Type 0} (units : D → List (List ℕ)) (lost : D → Bool) (failures : D → Failures) (p q : Parts D) (f : ℕ → Option Stored)
    → (AreSound p.groups (cells_in units lost p) → (slot : ℕ) (v : List ℕ) → unit_of q.groups (cells_in units lost q) slot ≡ Some v → unit_of p.groups (cells_in units lost p) slot ≡ Some v)
    → (AreSound p.groups (cells_in units lost p) → AreSound q.groups (cells_in units lost q)) → Shows (view_of units lost failures p) f → Shows (view_of units lost failures q) f
still_shown units lost failures p q f keeps sound shows =
    let was = shows_in units lost failures p f shows in
    shows_out units lost failures q f (record { sound = sound was.sound; shown = λ slot bytes e. was.shown slot bytes (keeps was.sound slot bytes e) })

-- where the member was moved, stated over the parts as plain data
pub shifted : {D : Type 0} (units : D → List (List ℕ)) (lost : D → Bool) (failures : D → Failures) (p q : Parts D) (g k : ℕ) (to : Member)
    → AllFare lost failures p.drives.items q.drives.items → (IsBeyondOf p.groups (missing_in lost p) g k → ⊥) → missing_in lost q to.drive ≡ false
    → (AreSound p.groups (cells_in units lost p) → (slot : ℕ) (v : List ℕ) → unit_of q.groups (cells_in units lost q) slot ≡ Some v → unit_of p.groups (cells_in units lost p) slot ≡ Some v)
    → (AreSound p.groups (cells_in units lost p) → AreSound q.groups (cells_in units lost q)) → IsSwap p.groups q.groups g k to → IsMove p.groups p.extents q.extents g k to → IsFit units q
    → Shifted (view_of units lost failures p) g k to (view_of units lost failures q)
shifted units lost failures p q g k to fares had present keeps sound swap move fit = record {
  bytes = all_kept units lost failures p q keeps;
  fares = view_fares units lost failures p q fares;
  had = λ beyond. had (subst (λ m. IsBeyondOf p.groups m g k) (view_lost units lost failures p) beyond);
  present = ap (λ m. m to.drive) (view_lost units lost failures q) ∙ present;
  shows = λ f shows. still_shown units lost failures p q f keeps sound shows;
  groups = swap;
  owners = move;
  agree = fit.agree;
}

-- and where it wasn't
pub not_shifted : {D : Type 0} (units : D → List (List ℕ)) (lost : D → Bool) (failures : D → Failures) (p q : Parts D) (g k : ℕ) (to : Member) (refusal : Refusal)
    → KeepsTables p q → AllFare lost failures p.drives.items q.drives.items
    → (AreSound p.groups (cells_in units lost p) → (slot : ℕ) (v : List ℕ) → unit_of q.groups (cells_in units lost q) slot ≡ Some v → unit_of p.groups (cells_in units lost p) slot ≡ Some v)
    → (AreSound p.groups (cells_in units lost p) → AreSound q.groups (cells_in units lost q)) → IsWhyUnmoved q.groups (missing_in lost q) g k to refusal
    → NotShifted (view_of units lost failures p) g k to (view_of units lost failures q) refusal
not_shifted units lost failures p q g k to refusal tables fares keeps sound why = record {
  loses = record {
    bytes = all_kept units lost failures p q keeps;
    fares = view_fares units lost failures p q fares;
    shows = λ f shows. still_shown units lost failures p q f keeps sound shows;
    rest = same_tables units lost failures p q tables;
  };
  reported = subst (λ m. IsWhyUnmoved q.groups m g k to refusal) (sym (view_lost units lost failures q)) why;
}

-- both, by the answer
pub if_shifted : {D : Type 0} (units : D → List (List ℕ)) (lost : D → Bool) (failures : D → Failures) (p q : Parts D) (g k : ℕ) (to : Member) {T : Type 0} (r : Result T Refusal)
    → OnOk r (WasSwapped units lost p g k to q) → KeepsSlots units lost EachSlot p q → AllFare lost failures p.drives.items q.drives.items → IsFit units q
    → OnOk r (Shifted (view_of units lost failures p) g k to (view_of units lost failures q))
if_shifted units lost failures p q g k to (Ok x) was slots fares fit =
    shifted units lost failures p q g k to fares was.had was.present (λ sound slot v e. slots.unchanged sound slot v tt e) slots.sound was.swapped was.moved fit
if_shifted units lost failures p q g k to (Err e) was slots fares fit = tt

pub if_not : {D : Type 0} (units : D → List (List ℕ)) (lost : D → Bool) (failures : D → Failures) (p q : Parts D) (g k : ℕ) (to : Member) {T : Type 0} (r : Result T Refusal)
    → IfErr r (WasNotSwapped lost p g k to q) → KeepsSlots units lost EachSlot p q → AllFare lost failures p.drives.items q.drives.items
    → IfErr r (NotShifted (view_of units lost failures p) g k to (view_of units lost failures q))
if_not units lost failures p q g k to (Ok x) was slots fares = tt
if_not units lost failures p q g k to (Err e) was slots fares =
    not_shifted units lost failures p q g k to e was.tables fares (λ sound slot v e. slots.unchanged sound slot v tt e) slots.sound was.reported
