-- Reads of a group's slots, one after another.
use Rattle.std.proofs.Common.{◌≡◌, ℕ, ◌+◌, ◌*◌, ◌/◌, ◌%◌, ◌<◌, ◌≤◌, ◌⊎◌, inl, inr, Bool, Option, Some, None, List, length, refl, sym, ◌∙◌, ap, subst, arith}
use Rattle.std.specs.Prelude.{slice_get, slice_set}
use Rattle.std.proofs.lemmas.Bool.{cases_order}
use Rattle.extents.specs.Failures.{Failures}
use Rattle.extents.specs.declared.shape.TheConstants.{HEADER_BYTES}
use Rattle.extent_groups.specs.declared.class.Class.{Class}
use Rattle.extent_groups.specs.declared.class.Member.{Member}
use Rattle.extent_groups.specs.Groups.{Group, Groups, AreGroups, IsFormed, class_in, group_at, members_of, slots_in}
use Rattle.extent_groups.specs.Cells.{Cells, cells, front}
use Rattle.extent_groups.specs.Stores.{unit_of, header_of, AreDrives, AreHeaders, AreSound, IsGroupOf, IsSlotOf, KeepsUnits, ReadLeaves}
use Rattle.extent_groups.proofs.Bounds.{slot_count_small}
use Rattle.extent_groups.proofs.DriveCalls.{keeps_none, keeps_trans}
use Rattle.extent_groups.proofs.Elsewhere.{same_trans}
use Rattle.extent_groups.proofs.Fronts.{front_some}
use Rattle.extent_groups.proofs.Places.{get-set_same, get-set_other}

-- a group has fewer than 128 slots
pub few_slots : (groups : Groups) (g : ℕ) → AreGroups groups → slots_in groups.segments (group_at groups g) < 128
few_slots groups g are = few groups.segments (group_at groups g) (are.formed g) are.segments.1 where
  few : (s : ℕ) (o : Option Group) → ((x : Group) → o ≡ Some x → IsFormed x.members) → s ≤ 8 → slots_in s o < 128
  few s None formed short = omega arith
  few s (Some x) formed short = slot_count_small x.class (length x.members) s (formed x refl).few short

pub index_low : (groups : Groups) (g i count : ℕ) → AreGroups groups → count ≡ slots_in groups.segments (group_at groups g) → i < count → i + 1 < 128
index_low groups g i count are many below = omega (arith, few_slots groups g are, many, below)

-- a slot of a group by its index, and the members of its group
pub slot_by_index : (t : Groups) (class : Class) (g i slot : ℕ) → i < 128 → slot ≡ 128 * g + i → class_in (group_at t g) ≡ Some class → i < slots_in t.segments (group_at t g) → IsSlotOf class t slot
slot_by_index t class g i slot low is made below =
    let of : g ≡ slot / 128 = omega (arith, low, is) in
    let index : i ≡ slot % 128 = omega (arith, low, is) in
    record {
      made = subst (λ n. class_in (group_at t n) ≡ Some class) of made;
      below = subst (λ k. k < slots_in t.segments (group_at t (slot / 128))) index (subst (λ n. i < slots_in t.segments (group_at t n)) of below);
    }

pub members_by_index : (t : Groups) (g i slot : ℕ) (members : List Member) → i < 128 → slot ≡ 128 * g + i → members ≡ members_of t g → AreGroups t → IsGroupOf t (slot / 128) members
members_by_index t g i slot members low is found formed =
    let of : g ≡ slot / 128 = omega (arith, low, is) in record { found = subst (λ n. members ≡ members_of t n) of found; formed = formed }

-- headers that were read stay when the next buffer is written
pub headers_stay : (t : Groups) (c : Cells) (g i : ℕ) (hs : List (List ℕ)) (h : List ℕ) → AreHeaders t c g i hs → AreHeaders t c g i (slice_set hs i h)
headers_stay t c g i hs h were = λ j less. were j less ∙ sym (get-set_other hs i j h (λ e. let less = less in let e = e in omega (arith, less, e)))

-- zero reads leave all as it was
read_none : {D : Type 0} {units : D → List (List ℕ)} {lost : D → Bool} {failures : D → Failures} (t : Groups) (g : ℕ) (ds : List D) → AreDrives units t ds → ReadLeaves units lost failures t g ds ds
read_none t g ds are = record {
  units_kept = λ s slot u e. e;
  sound = λ s. s;
  touched = keeps_none ds;
  elsewhere = λ d apart. refl;
  drives = are;
}

-- and reads one after another leave what one does
read_more : {D : Type 0} {units : D → List (List ℕ)} {lost : D → Bool} {failures : D → Failures} (t : Groups) (g : ℕ) (a b c : List D) → ReadLeaves units lost failures t g a b → ReadLeaves units lost failures t g b c
    → ReadLeaves units lost failures t g a c
read_more t g a b c one two = record {
  units_kept = λ s slot u e. one.units_kept s slot u (two.units_kept (one.sound s) slot u e);
  sound = λ s. two.sound (one.sound s);
  touched = keeps_trans one.touched two.touched;
  elsewhere = same_trans a b c one.elsewhere two.elsewhere;
  drives = two.drives;
}

-- a header that is read after losses is that of before
header_kept : (t : Groups) (c new : Cells) (slot : ℕ) (h : List ℕ) → KeepsUnits t c new → header_of t new slot ≡ Some h → header_of t c slot ≡ Some h
header_kept t c new slot h keeps e =
    let u = front_some HEADER_BYTES (unit_of t new slot) h e in
    ap (front HEADER_BYTES) (keeps slot u.0 u.1) ∙ ap (λ x. Some x) u.2

last_or : (j i : ℕ) → j < i + 1 → (j < i) ⊎ (j ≡ i)
last_or j i h = elim (cases_order j i) [ inl e ↦ inr e | inr o ↦ inl (elim o [ inl below ↦ below | inr above ↦ absurd (omega arith) ]) ]

-- one header more
headers_more : (t : Groups) (c new : Cells) (g i : ℕ) (hs : List (List ℕ)) (h : List ℕ) → i < length hs → KeepsUnits t c new → AreHeaders t c g i hs → header_of t new (128 * g + i) ≡ Some h
    → AreHeaders t c g (i + 1) (slice_set hs i h)
headers_more t c new g i hs h within keeps were read = λ j below. elim (last_or j i below) [
  | inl less ↦ were j less ∙ sym (get-set_other hs i j h (λ e. let less = less in let e = e in omega (arith, less, e)))
  | inr q ↦ subst (λ k. header_of t c (128 * g + k) ≡ slice_get (slice_set hs i h) k) (sym q) (header_kept t c new (128 * g + i) h keeps read ∙ sym (get-set_same hs i h within))
]

-- the reads of a group's slots so far: the headers of the first of them, and what all of them leave
pub record Reads {D : Type 0} (units : D → List (List ℕ)) (lost : D → Bool) (failures : D → Failures) (t : Groups) (g : ℕ) (start now : List D) (count : ℕ) (hs : List (List ℕ)) : Type 0 where
  pub read : AreSound t (cells units lost start) → AreHeaders t (cells units lost start) g count hs
  pub leaves : ReadLeaves units lost failures t g start now

pub reads_none : {D : Type 0} {units : D → List (List ℕ)} {lost : D → Bool} {failures : D → Failures} (t : Groups) (g : ℕ) (ds : List D) (hs : List (List ℕ)) → AreDrives units t ds
    → Reads units lost failures t g ds ds 0 hs
reads_none t g ds hs are = record { read = λ s i h. absurd (omega (arith, h)); leaves = read_none t g ds are }

-- what they leave with the next one
pub reads_left : {D : Type 0} {units : D → List (List ℕ)} {lost : D → Bool} {failures : D → Failures} (t : Groups) (g i slot : ℕ) (a b c : List D) (hs : List (List ℕ)) → i < 128 → slot ≡ 128 * g + i
    → Reads units lost failures t g a b i hs → ReadLeaves units lost failures t (slot / 128) b c → ReadLeaves units lost failures t g a c
reads_left {units = units} {lost = lost} {failures = failures} t g i slot a b c hs low is so one =
    read_more t g a b c so.leaves (subst (λ n. ReadLeaves units lost failures t n b c) (let of : slot / 128 ≡ g = omega (arith, low, is) in of) one)

pub reads_more : {D : Type 0} {units : D → List (List ℕ)} {lost : D → Bool} {failures : D → Failures} (t : Groups) (g i slot : ℕ) (a b c : List D) (hs : List (List ℕ)) (h : List ℕ) → i < 128 → slot ≡ 128 * g + i → i < length hs
    → Reads units lost failures t g a b i hs → ReadLeaves units lost failures t (slot / 128) b c → header_of t (cells units lost c) slot ≡ Some h → Reads units lost failures t g a c (i + 1) (slice_set hs i h)
reads_more {units = units} {lost = lost} t g i slot a b c hs h low is within so one read =
    let left = reads_left t g i slot a b c hs low is so one in
    record {
      read = λ sound. headers_more t (cells units lost a) (cells units lost c) g i hs h within (left.units_kept sound) (so.read sound) (ap (header_of t (cells units lost c)) (sym is) ∙ read);
      leaves = left;
    }
