-- A group is made of extents that were wiped: which slots keep their units, what the new ones hold, and that the parts fit.
use Rattle.std.proofs.Common.{◌≡◌, ◌≢◌, ℕ, ◌/◌, ◌%◌, ◌<◌, ◌≤◌, Some, None, List, length, refl, sym, ◌∙◌, ap, subst, arith}
use Rattle.std.specs.Prelude.{slice_get, replicate, Bool}
use Rattle.std.proofs.lemmas.Option.{same_Some, slice_get_within}
use Rattle.extents.specs.Failures.{Failures}
use Rattle.extents.specs.Shapes.{IsShapeOf}
use Rattle.extents.specs.Owners.{Owners}
use Rattle.extent_groups.specs.declared.class.Class.{Class}
use Rattle.extent_groups.specs.declared.class.Member.{Member}
use Rattle.extent_groups.specs.declared.place.Place.{Place}
use Rattle.extent_groups.specs.Faults.{put_fault}
use Rattle.extent_groups.specs.Groups.{Group, Groups, group_at, with_group, with_owners, AreThere, AreGroups, Agree, IsFree, IsFormed}
use Rattle.extent_groups.specs.Cells.{Cells, cells, held}
use Rattle.extent_groups.specs.Calls.{FadesAt, KeepsDrives}
use Rattle.extent_groups.specs.Layout.{IsOf}
use Rattle.extent_groups.specs.Units.{Site, site_of}
use Rattle.extent_groups.specs.Stores.{unit_bytes, unit_of, AreSound, AreDrives, KeepsUnits}
use Rattle.extent_groups.proofs.Agreement.{groups_with}
use Rattle.extent_groups.proofs.Blank.{blank_site, blank_in}
use Rattle.extent_groups.proofs.GroupsLemmas.{group_same}
use Rattle.extent_groups.proofs.Keeping.{passed}
use Rattle.extent_groups.proofs.LayoutLaw.{layout_law, lies, slot_of}
use Rattle.extent_groups.proofs.Losses.{untouched_fades}
use Rattle.extent_groups.proofs.Making.{put_keeps, drives_with, free_apart}
use Rattle.extent_groups.proofs.Readiness.{rows_given, extents_given}
use Rattle.extent_groups.proofs.Sites.{extent_there}
use Rattle.extent_groups.proofs.SlotWrites.{slots_kept}
use Rattle.extent_groups.proofs.StoreCalls.{drives_kept, sized_cells}
use Rattle.unit_store.specs.declared.parts.Parts.{Parts}
use Rattle.flat_machine.specs.Groups.{ArePresent}
use Rattle.unit_store.specs.Fit.{IsFit}
use Rattle.unit_store.specs.Losses.{AllFare, KeepsTables}
use Rattle.unit_store.specs.Slots.{cells_in, missing_in}
use Rattle.unit_store.proofs.Reading.{keeps_fare}
use Rattle.unit_store.proofs.Wiping.{wiped_present}
use Rattle.unit_store.specs.Making.{HaveExtents, AreWiped, IsInOne}

-- the group that is made
abbrev pub new_group : Class → List Member → Group
new_group class ms = record { class = class; members = ms }

-- the drives have the extents of members that are there
pub extents_there : {D : Type 0} (units : D → List (List ℕ)) (p : Parts D) (ms : List Member) → IsFit units p → AreThere p.extents ms → HaveExtents units p.groups.segments p.drives.items ms
extents_there units p ms fit there k m at =
    let is = there k m at in
    extent_there units p.groups p.drives.items m fit.drives (omega (arith, is.within, fit.rows)) (omega (arith, is.inside, fit.wide))

-- what lies on no owned extent is what the slots don't use
sites_fade : {D : Type 0} {units : D → List (List ℕ)} {lost : D → Bool} {failures : D → Failures} (t : Groups) (o : Owners) (ms : List Member) (old new : List D) → AreGroups t → Agree t o → put_fault o ms ≡ None
    → KeepsDrives units lost failures (IsInOne t.segments ms) old new → (slot : ℕ) (site : Site) (x : Place) → site_of t slot ≡ Some site → IsOf site x → FadesAt (cells units lost old) (cells units lost new) x
sites_fade t o ms old new are agree fine keeps slot site x at of =
    untouched_fades keeps x
    (λ is. free_apart t o is.1 is.3.0 slot site are agree ((passed o ms fine).free is.0 is.1 is.2) is.3.1 at (subst (IsOf site) is.3.2 of))

-- slots keep their units while extents are wiped that no group owns
pub wiping_keeps : {D : Type 0} {units : D → List (List ℕ)} {lost : D → Bool} {failures : D → Failures} (t : Groups) (o : Owners) (ms : List Member) (old new : List D) → AreGroups t → Agree t o → AreDrives units t old
    → put_fault o ms ≡ None → KeepsDrives units lost failures (IsInOne t.segments ms) old new → AreSound t (cells units lost old)
    → KeepsUnits t (cells units lost old) (cells units lost new) × AreSound t (cells units lost new)
wiping_keeps {units = units} {lost = lost} t o ms old new are agree drives fine keeps sound =
    slots_kept t (cells units lost old) (cells units lost new) (layout_law t are) (sized_cells units lost t old drives) sound (sites_fade t o ms old new are agree fine keeps)

-- each place of the new group's slots holds zeros
places_blank : (t : Groups) (g : ℕ) (class : Class) (ms : List Member) (zeros : List ℕ) (c : Cells) → g < length t.table → 2 ≤ length ms → AreWiped t.segments ms zeros (length ms) c
    → (slot : ℕ) (site : Site) (x : Place) (u : List ℕ) → slot / 128 ≡ g → site_of (with_group t g (Some (new_group class ms))) slot ≡ Some site → IsOf site x → held c x ≡ Some u → u ≡ zeros
places_blank t g class ms zeros c within two wiped slot site x u q at of e =
    let is = slot_of t.segments (group_at (with_group t g (Some (new_group class ms))) (slot / 128)) (slot % 128) site at in
    let same : is.group ≡ new_group class ms =
    same_Some _ _ (sym is.made ∙ ap (group_at (with_group t g (Some (new_group class ms)))) q ∙ group_same t g (Some (new_group class ms)) within) in
    let enough : 2 ≤ length is.group.members = subst (λ (y : Group). 2 ≤ length y.members) (sym same) two in
    let l = lies t.segments is.group.class is.group.members (slot % 128) x enough is.below (subst (λ z. IsOf z x) (sym is.site) of) in
    let there : slice_get ms l.number ≡ Some l.member = subst (λ (y : Group). slice_get y.members l.number ≡ Some l.member) same l.there in
    let zero : held c x ≡ Some zeros = subst (λ y. held c y ≡ Some zeros) (sym l.is) (wiped l.number l.member (slice_get_within ms l.number l.member there) there l.offset l.low) in
    same_Some u zeros (sym e ∙ zero)

-- the new group's slots are blank
pub made_blank : (t : Groups) (g : ℕ) (class : Class) (ms : List Member) (zeros : List ℕ) (c : Cells) → g < length t.table → 2 ≤ length ms → zeros ≡ replicate (unit_bytes t) 0
    → AreWiped t.segments ms zeros (length ms) c → (slot : ℕ) (v : List ℕ) → slot / 128 ≡ g → unit_of (with_group t g (Some (new_group class ms))) c slot ≡ Some v → v ≡ zeros
made_blank t g class ms zeros c within two zero wiped slot v q e =
    blank_in (unit_bytes t) c (site_of (with_group t g (Some (new_group class ms))) slot)
    (λ site at. (blank_site (unit_bytes t) c site (λ x of u held_is. places_blank t g class ms zeros c within two wiped slot site x u q at of held_is ∙ zero)).1) v e
    ∙ sym zero

-- the others keep their units, and all is sound
pub made_keeps : {D : Type 0} {units : D → List (List ℕ)} {lost : D → Bool} {failures : D → Failures} (t : Groups) (o : Owners) (g : ℕ) (class : Class) (ms : List Member) (zeros : List ℕ) (old new : List D)
    → AreGroups t → Agree t o → AreDrives units t old → g < length t.table → put_fault o ms ≡ None → zeros ≡ replicate (unit_bytes t) 0
    → KeepsDrives units lost failures (IsInOne t.segments ms) old new → AreWiped t.segments ms zeros (length ms) (cells units lost new) → AreSound t (cells units lost old)
    → ((slot : ℕ) (v : List ℕ) → slot / 128 ≢ g → unit_of (with_group t g (Some (new_group class ms))) (cells units lost new) slot ≡ Some v → unit_of t (cells units lost old) slot ≡ Some v)
    × AreSound (with_group t g (Some (new_group class ms))) (cells units lost new)
made_keeps {units = units} {lost = lost} t o g class ms zeros old new are agree drives within fine zero keeps wiped sound =
    let kept = wiping_keeps t o ms old new are agree drives fine keeps sound in
    let formed = (passed o ms fine).formed in
    let two : 2 ≤ length ms = omega (arith, formed.enough) in
    let put = put_keeps t g (new_group class ms) (cells units lost new) kept.1
    (λ slot site x u q at of e. places_blank t g class ms zeros (cells units lost new) within two wiped slot site x u q at of e ∙ zero) in (
      λ slot v ne e. kept.0 slot v (sym (put.1 slot ne) ∙ e),
      put.0,
    )

-- the parts fit, with the drives as calls left them
pub still_fit : {D : Type 0} {units : D → List (List ℕ)} {lost : D → Bool} {failures : D → Failures} {touched : Place → Type 0} (p q : Parts D) (ds : List D) → IsFit units p → q.shape ≡ p.shape → q.groups ≡ p.groups
    → q.extents ≡ p.extents → q.drives.items ≡ ds → KeepsDrives units lost failures touched p.drives.items ds → IsFit units q
still_fit {units = units} p q ds fit shape groups extents drives keeps =
    let many : length q.drives.items ≡ length p.drives.items = ap length drives ∙ keeps.many in
    record {
      shape = subst (λ (t : Groups). IsShapeOf q.shape t.extents t.segments t.payload t.blocks) (sym groups)
          (subst (λ s. IsShapeOf s p.groups.extents p.groups.segments p.groups.payload p.groups.blocks) (sym shape) fit.shape);
      least = omega (arith, fit.least, many);
      most = omega (arith, fit.most, many);
      groups = subst AreGroups (sym groups) fit.groups;
      drives = subst (λ t. AreDrives units t q.drives.items) (sym groups) (subst (AreDrives units p.groups) (sym drives) (drives_kept p.groups keeps fit.drives));
      agree = subst (λ t. Agree t q.extents) (sym groups) (subst (Agree p.groups) (sym extents) fit.agree);
      rows = ap (λ (o : Owners). length o.rows) extents ∙ fit.rows ∙ sym many;
      wide = ap (λ (o : Owners). o.extents) extents ∙ fit.wide ∙ sym (ap (λ (t : Groups). t.extents) groups);
    }

-- the parts fit, with one more group
pub made_fit : {D : Type 0} {units : D → List (List ℕ)} {lost : D → Bool} {failures : D → Failures} {touched : Place → Type 0} (p q : Parts D) (ds : List D) (g : ℕ) (class : Class) (ms : List Member)
    → IsFit units p → g < length p.groups.table → AreThere p.extents ms → put_fault p.extents ms ≡ None → q.shape ≡ p.shape → q.groups ≡ with_group p.groups g (Some (new_group class ms))
    → q.extents ≡ with_owners p.extents ms (Some g) → q.drives.items ≡ ds → KeepsDrives units lost failures touched p.drives.items ds → Agree q.groups q.extents → IsFit units q
made_fit {units = units} p q ds g class ms fit within there fine shape groups extents drives keeps agree =
    let many : length q.drives.items ≡ length p.drives.items = ap length drives ∙ keeps.many in
    let t = with_group p.groups g (Some (new_group class ms)) in
    let formed = (passed p.extents ms fine).formed in
    let agrees : Agree t q.extents = subst (λ y. Agree y q.extents) groups agree in
    record {
      shape = subst (λ (t : Groups). IsShapeOf q.shape t.extents t.segments t.payload t.blocks) (sym groups)
          (subst (λ s. IsShapeOf s p.groups.extents p.groups.segments p.groups.payload p.groups.blocks) (sym shape) fit.shape);
      least = omega (arith, fit.least, many);
      most = omega (arith, fit.most, many);
      groups = subst AreGroups (sym groups)
          (groups_with p.groups q.extents g (Some (new_group class ms)) fit.groups agrees within (λ x e. subst (λ (y : Group). IsFormed y.members) (same_Some (new_group class ms) x e) formed));
      drives = subst (λ t. AreDrives units t q.drives.items) (sym groups) (subst (AreDrives units t) (sym drives)
          (drives_with p.groups g (Some (new_group class ms)) ds within (drives_kept p.groups keeps fit.drives)
          (λ k m at. (let is = there k m at in (omega (arith, is.within, fit.rows, keeps.many), omega (arith, is.inside, fit.wide))))));
      agree = agree;
      rows = ap (λ (o : Owners). length o.rows) extents ∙ rows_given p.extents ms (Some g) ∙ fit.rows ∙ sym many;
      wide = ap (λ (o : Owners). o.extents) extents ∙ extents_given p.extents ms (Some g) ∙ fit.wide ∙ sym (ap (λ (y : Groups). y.extents) groups);
    }

-- what is left where a drive was lost while extents were wiped
pub record IsUnmade {D : Type 0} (units : D → List (List ℕ)) (lost : D → Bool) (failures : D → Failures) (p w : Parts D) : Type 0 where
  pub keeps : AreSound p.groups (cells_in units lost p) → (slot : ℕ) (v : List ℕ) → unit_of w.groups (cells_in units lost w) slot ≡ Some v → unit_of p.groups (cells_in units lost p) slot ≡ Some v
  pub sound : AreSound p.groups (cells_in units lost p) → AreSound w.groups (cells_in units lost w)
  pub fares : AllFare lost failures p.drives.items w.drives.items
  pub fit : IsFit units w

pub unmade : {D : Type 0} (units : D → List (List ℕ)) (lost : D → Bool) (failures : D → Failures) (p w : Parts D) (ms seen : List Member) → IsFit units p → put_fault p.extents ms ≡ None → KeepsTables p w → seen ≡ ms
    → KeepsDrives units lost failures (IsInOne p.groups.segments seen) p.drives.items w.drives.items → IsUnmade units lost failures p w
unmade units lost failures p w ms seen fit fine tables same keeps =
    let touched = subst (λ l. KeepsDrives units lost failures (IsInOne p.groups.segments l) p.drives.items w.drives.items) same keeps in
    let kept = wiping_keeps p.groups p.extents ms p.drives.items w.drives.items fit.groups fit.agree fit.drives fine touched in
    record {
      keeps = λ sound slot v e. (kept sound).0 slot v (subst (λ t. unit_of t (cells_in units lost w) slot ≡ Some v) tables.groups e);
      sound = λ sound. subst (λ t. AreSound t (cells_in units lost w)) (sym tables.groups) (kept sound).1;
      fares = keeps_fare p.drives.items w.drives.items keeps;
      fit = still_fit p w w.drives.items fit tables.shape tables.groups tables.extents refl keeps;
    }

-- what is left where a group was made
pub record IsMade {D : Type 0} (units : D → List (List ℕ)) (lost : D → Bool) (failures : D → Failures) (p q : Parts D) (g : ℕ) (ms : List Member) (zeros : List ℕ) : Type 0 where
  pub present : ArePresent (missing_in lost q) ms
  pub blank : (slot : ℕ) (v : List ℕ) → slot / 128 ≡ g → unit_of q.groups (cells_in units lost q) slot ≡ Some v → v ≡ zeros
  pub keeps : AreSound p.groups (cells_in units lost p) → (slot : ℕ) (v : List ℕ) → slot / 128 ≢ g → unit_of q.groups (cells_in units lost q) slot ≡ Some v → unit_of p.groups (cells_in units lost p) slot ≡ Some v
  pub sound : AreSound p.groups (cells_in units lost p) → AreSound q.groups (cells_in units lost q)
  pub fares : AllFare lost failures p.drives.items q.drives.items
  pub fit : IsFit units q

pub made : {D : Type 0} (units : D → List (List ℕ)) (lost : D → Bool) (failures : D → Failures) (p w : Parts D) (t : Groups) (o : Owners) (g : ℕ) (class : Class) (ms seen : List Member) (zeros : List ℕ)
    → IsFit units p → IsFree p.groups g → AreThere p.extents ms → put_fault p.extents ms ≡ None → zeros ≡ replicate (unit_bytes p.groups) 0 → KeepsTables p w
    → t ≡ with_group w.groups g (Some (new_group class ms)) → o ≡ with_owners w.extents ms (Some g) → Agree t o → seen ≡ ms
    → KeepsDrives units lost failures (IsInOne p.groups.segments seen) p.drives.items w.drives.items
    → AreWiped p.groups.segments seen zeros (length seen) (cells_in units lost w) → IsMade units lost failures p (record { shape = w.shape; groups = t; extents = o; drives = w.drives; note = w.note }) g ms zeros
made {D = D} units lost failures p w t o g class ms seen zeros fit free there fine zero tables is given agree same keeps wiped =
    let touched = subst (λ l. KeepsDrives units lost failures (IsInOne p.groups.segments l) p.drives.items w.drives.items) same keeps in
    let all = subst (λ l. AreWiped p.groups.segments l zeros (length l) (cells_in units lost w)) same wiped in
    let new : Groups = with_group p.groups g (Some (new_group class ms)) in
    let groups : t ≡ new = is ∙ ap (λ y. with_group y g (Some (new_group class ms))) tables.groups in
    let owners : o ≡ with_owners p.extents ms (Some g) = given ∙ ap (λ y. with_owners y ms (Some g)) tables.extents in
    let two : 2 ≤ length ms = omega (arith, (passed p.extents ms fine).formed.enough) in
    let kept = made_keeps p.groups p.extents g class ms zeros p.drives.items w.drives.items fit.groups fit.agree fit.drives free.within fine zero touched all in
    let q : Parts D = record { shape = w.shape; groups = t; extents = o; drives = w.drives; note = w.note } in
    record {
      present = λ k m at. wiped_present units lost p.groups.segments m zeros w.drives.items fit.groups.segments.0 (all k m (slice_get_within ms k m at) at);
      blank = λ slot v q e. made_blank p.groups g class ms zeros (cells_in units lost w) free.within two zero all slot v q (subst (λ y. unit_of y (cells_in units lost w) slot ≡ Some v) groups e);
      keeps = λ sound slot v ne e. (kept sound).0 slot v ne (subst (λ y. unit_of y (cells_in units lost w) slot ≡ Some v) groups e);
      sound = λ sound. subst (λ y. AreSound y (cells_in units lost w)) (sym groups) (kept sound).1;
      fares = keeps_fare p.drives.items w.drives.items keeps;
      fit = made_fit p q w.drives.items g class ms fit free.within there fine tables.shape groups owners refl keeps agree;
    }
