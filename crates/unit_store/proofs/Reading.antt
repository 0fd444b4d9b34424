-- What a read and a write of the drives say about the parts.
use Rattle.std.proofs.Common.{◌≡◌, ℕ, ◌/◌, ◌%◌, ◌<◌, Bool, true, Option, Some, None, Result, Ok, Err, OnOk, IfErr, List, Vec, length, refl, sym, ◌∙◌, ap, subst, arith, nat_lt, if◌then◌else◌}
use Rattle.std.specs.Prelude.{slice_get, ok_or}
use Rattle.std.specs.Result.{result_ok}
use Rattle.std.specs.Vec.{with_items}
use Rattle.std.proofs.lemmas.List.{with_items_is}
use Rattle.std.proofs.lemmas.Bool.Decides.{nat_tests}
use Rattle.std.proofs.lemmas.Option.{none-some, slice_get-get_or, slice_get_within}
use Rattle.extents.specs.Failures.{Failures}
use Rattle.flat_machine.specs.declared.refusal.Refusal.{Refusal}
use Rattle.flat_machine.specs.declared.refusal.Refusal.TheVariants.{Gone}
use Rattle.flat_machine.specs.Cases.{Fares}
use Rattle.extent_groups.specs.declared.place.Place.{Place}
use Rattle.extent_groups.specs.declared.refusal.StoreRefusal.{StoreRefusal}
use Rattle.extent_groups.specs.Geometry.{slot_count}
use Rattle.extent_groups.specs.Groups.{Group, Groups, AreGroups, group_at, slots_in}
use Rattle.extent_groups.specs.Cells.{cells}
use Rattle.extent_groups.specs.Calls.{KeepsDrives}
use Rattle.extent_groups.specs.Missing.{missing_of, is_missing, IsGone}
use Rattle.extent_groups.specs.Units.{Site, site_in, site_of, site_of_index}
use Rattle.extent_groups.specs.Stores.{unit_of, header_of, AreDrives, NamesGone}
use Rattle.extents.specs.declared.shape.TheConstants.{HEADER_BYTES}
use Rattle.extent_groups.proofs.Fronts.{front_some}
use Rattle.unit_store.specs.declared.parts.Parts.{Parts}
use Rattle.extent_groups.proofs.Missing.{gone_law}
use Rattle.unit_store.specs.Losses.{AllFare, failures_at}
use Rattle.unit_store.specs.Slots.{IsSlot, missing_in, HoldsUnit, ReportsGone}

-- a Vec whose elements were borrowed and overwritten holds what was written
pub written_back : {X Z : Type 0} (v : Vec X Z) (lent new : List X) → lent ≡ v.items → length new ≡ length lent → (with_items v new).items ≡ new
written_back v lent new e l = with_items_is v new (l ∙ ap length e ∙ sym v.ok.0)

-- how a drive fares that calls used
drive_fares : {D : Type 0} (units : D → List (List ℕ)) (lost : D → Bool) (failures : D → Failures) (touched : Place → Type 0) (old new : List D) (d : ℕ) (a b : Option D)
    → KeepsDrives units lost failures touched old new → slice_get old d ≡ a → slice_get new d ≡ b
    → Fares (is_missing lost a) (is_missing lost b) (failures_at failures a) (failures_at failures b)
drive_fares units lost failures touched old new d None None keeps ea eb = record { stays = λ h. refl; count = refl; steady = λ h. (h, refl) }
drive_fares units lost failures touched old new d None (Some y) keeps ea eb =
    absurd (none-some _ (sym ea ∙ slice_get-get_or old d y (omega (arith, slice_get_within new d y eb, keeps.many))))
drive_fares units lost failures touched old new d (Some x) None keeps ea eb =
    absurd (none-some _ (sym eb ∙ slice_get-get_or new d x (omega (arith, slice_get_within old d x ea, keeps.many))))
drive_fares units lost failures touched old new d (Some x) (Some y) keeps ea eb =
    let k = keeps.each d x y ea eb in record { stays = k.stays; count = k.count; steady = k.steady }

-- how all drives fare that calls used
pub keeps_fare : {D : Type 0} {units : D → List (List ℕ)} {lost : D → Bool} {failures : D → Failures} {touched : Place → Type 0} (old new : List D)
    → KeepsDrives units lost failures touched old new → AllFare lost failures old new
keeps_fare {units = units} {lost = lost} {failures = failures} {touched = touched} old new keeps = record {
  many = keeps.many;
  each = λ d. drive_fares units lost failures touched old new d (slice_get old d) (slice_get new d) keeps refl refl;
}

below_is : (a b : ℕ) → a < b → nat_lt a b ≡ true
below_is a b h = grind (arith, nat_tests)

index_there : (s : ℕ) (o : Option Group) (i : ℕ) → i < slots_in s o → (site : Site) × (site_of_index s o i ≡ Some site)
index_there s None i h = absurd (omega arith)
index_there s (Some group) i h = (
  site_in s group.class group.members i,
  ap (λ b. if b then Some (site_in s group.class group.members i) else None) (below_is i (slot_count group.class (length group.members) s) h),
)

-- a slot of a made group lies somewhere
pub slot_there : (t : Groups) (slot : ℕ) → IsSlot t slot → (site : Site) × (site_of t slot ≡ Some site)
slot_there t slot is = index_there t.segments (group_at t (slot / 128)) (slot % 128) is

-- a slot whose unit is there isn't gone
pub not_gone : {D : Type 0} (units : D → List (List ℕ)) (lost : D → Bool) (t : Groups) (ds : List D) (slot : ℕ) (u : List ℕ) → AreGroups t → AreDrives units t ds
    → unit_of t (cells units lost ds) slot ≡ Some u → IsGone t (missing_of lost ds) slot → ⊥
not_gone units lost t ds slot u groups are there gone =
    none-some u (sym ((gone_law units lost t ds slot gone.0 groups are gone.1).1 gone) ∙ there)

-- a slot whose unit isn't there is gone
pub is_gone : {D : Type 0} (units : D → List (List ℕ)) (lost : D → Bool) (t : Groups) (ds : List D) (slot : ℕ) → IsSlot t slot → AreGroups t → AreDrives units t ds
    → unit_of t (cells units lost ds) slot ≡ None → IsGone t (missing_of lost ds) slot
is_gone units lost t ds slot is groups are none =
    let site = slot_there t slot is in (gone_law units lost t ds slot site.0 groups are site.1).0 none

-- a slot that has no unit is gone, stated over the parts
pub gone_of : {D : Type 0} (units : D → List (List ℕ)) (lost : D → Bool) (p : Parts D) (ds : List D) (slot : ℕ) → p.drives.items ≡ ds → IsSlot p.groups slot → AreGroups p.groups → AreDrives units p.groups ds
    → unit_of p.groups (cells units lost ds) slot ≡ None → ReportsGone units lost p slot (Gone slot)
gone_of units lost p ds slot same is groups are none = record {
  reported = refl;
  none = ap (λ xs. unit_of p.groups (cells units lost xs) slot) same ∙ none;
  gone = subst (λ xs. IsGone p.groups (missing_of lost xs) slot) (sym same) (is_gone units lost p.groups ds slot is groups are none);
}

-- what the answer to a read or a write of a slot says about the parts
pub record SlotReported {A D : Type 0} (units : D → List (List ℕ)) (lost : D → Bool) (p : Parts D) (slot : ℕ) (answer : Result A Refusal) : Type 0 where
  pub there : OnOk answer (IsGone p.groups (missing_in lost p) slot → ⊥)
  pub gone : IfErr answer (ReportsGone units lost p slot)

-- the parts with what was written to the drives that were borrowed from them
abbrev pub lent_back : {D : Type 0} → Parts D → List D → Parts D
lent_back p new = record { shape = p.shape; groups = p.groups; extents = p.extents; drives = with_items p.drives new; note = p.note }

-- the answer of a store that borrowed the drives, with its refusal as the machine's
pub slot_reported : {A D : Type 0} (units : D → List (List ℕ)) (lost : D → Bool) (p : Parts D) (lent new : List D) (slot : ℕ) (u : List ℕ) (found : Result A StoreRefusal) (answer : Result A Refusal)
    → answer ≡ ok_or (result_ok found) (Gone slot) → lent ≡ p.drives.items → length new ≡ length lent → IsSlot p.groups slot → AreGroups p.groups → AreDrives units p.groups new
    → OnOk found (unit_of p.groups (cells units lost new) slot ≡ Some u) → IfErr found (NamesGone p.groups (cells units lost new) slot) → SlotReported units lost (lent_back p new) slot answer
slot_reported units lost p lent new slot u (Ok done) answer reported e many is groups are there names = subst (SlotReported units lost (lent_back p new) slot) (sym reported) (record {
  there = subst (λ ds. IsGone p.groups (missing_of lost ds) slot → ⊥) (sym (written_back p.drives lent new e many)) (not_gone units lost p.groups new slot u groups are there);
  gone = tt;
})
slot_reported units lost p lent new slot u (Err refusal) answer reported e many is groups are there names =
    subst (SlotReported units lost (lent_back p new) slot) (sym reported)
    (record { there = tt; gone = gone_of units lost (lent_back p new) new slot (written_back p.drives lent new e many) is groups are names.1 })

-- the same of a slot that holds what was written
pub holds_reported : {A D : Type 0} (units : D → List (List ℕ)) (lost : D → Bool) (p : Parts D) (lent new : List D) (slot : ℕ) (u : List ℕ) (found : Result A StoreRefusal) (answer : Result A Refusal)
    → answer ≡ ok_or (result_ok found) (Gone slot) → lent ≡ p.drives.items → length new ≡ length lent → AreGroups p.groups → AreDrives units p.groups new
    → OnOk found (unit_of p.groups (cells units lost new) slot ≡ Some u) → OnOk answer (HoldsUnit units lost (lent_back p new) slot u)
holds_reported units lost p lent new slot u (Ok done) answer reported e many groups are there = subst (λ a. OnOk a (HoldsUnit units lost (lent_back p new) slot u)) (sym reported) (record {
  unit = ap (λ ds. unit_of p.groups (cells units lost ds) slot) (written_back p.drives lent new e many) ∙ there;
  there = subst (λ ds. IsGone p.groups (missing_of lost ds) slot → ⊥) (sym (written_back p.drives lent new e many)) (not_gone units lost p.groups new slot u groups are there);
})
holds_reported units lost p lent new slot u (Err refusal) answer reported e many groups are there = subst (λ a. OnOk a (HoldsUnit units lost (lent_back p new) slot u)) (sym reported) tt

-- the same of a store that read a header
pub header_reported : {A D : Type 0} (units : D → List (List ℕ)) (lost : D → Bool) (p : Parts D) (lent new : List D) (slot : ℕ) (header : List ℕ) (found : Result A StoreRefusal) (answer : Result A Refusal)
    → answer ≡ ok_or (result_ok found) (Gone slot) → lent ≡ p.drives.items → length new ≡ length lent → IsSlot p.groups slot → AreGroups p.groups → AreDrives units p.groups new
    → OnOk found (header_of p.groups (cells units lost new) slot ≡ Some header) → IfErr found (NamesGone p.groups (cells units lost new) slot) → SlotReported units lost (lent_back p new) slot answer
header_reported units lost p lent new slot header (Ok done) answer reported e many is groups are there names =
    let one = front_some HEADER_BYTES (unit_of p.groups (cells units lost new) slot) header there in
    slot_reported units lost p lent new slot one.0 (Ok done) answer reported e many is groups are one.1 names
header_reported units lost p lent new slot header (Err refusal) answer reported e many is groups are there names =
    slot_reported units lost p lent new slot header (Err refusal) answer reported e many is groups are there names

-- how the drives fare in a call that borrowed them, stated over the Vec that owns them
pub fares_back : {D : Type 0} {units : D → List (List ℕ)} {lost : D → Bool} {failures : D → Failures} {touched : Place → Type 0} {Z : Type 0} (v : Vec D Z) (lent new : List D) → lent ≡ v.items
    → KeepsDrives units lost failures touched lent new → AllFare lost failures v.items (with_items v new).items
fares_back {lost = lost} {failures = failures} v lent new e keeps =
    subst (λ xs. AllFare lost failures v.items xs) (sym (written_back v lent new e keeps.many)) (subst (λ ds. AllFare lost failures ds new) e (keeps_fare lent new keeps))

-- what is true of borrowed drives and a number is true of the Vec that owns them and of an equal number
pub reported_back : {D Z : Type 0} (P : List D → List D → ℕ → Type 0) (v : Vec D Z) (lent new : List D) (s t : ℕ) → lent ≡ v.items → length new ≡ length lent → s ≡ t → P lent new s → P v.items (with_items v new).items t
reported_back P v lent new s t e many same h =
    subst (λ n. P v.items (with_items v new).items n) same (subst (λ xs. P v.items xs s) (sym (written_back v lent new e many)) (subst (λ ds. P ds new s) e h))
