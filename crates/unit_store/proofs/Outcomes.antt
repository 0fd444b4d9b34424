-- What a read for an offset of a group's member comes to, by the role that the offset has.
use Rattle.std.proofs.Common.{◌≡◌, ℕ, ◌+◌, ◌*◌, ◌/◌, ◌%◌, ◌<◌, ◌⊎◌, Bool, true, false, Option, Some, None, List, length, refl, sym, ◌∙◌, ap, subst, arith}
use Rattle.std.specs.Prelude.{slice_get, replicate, unwrap_or}
use Rattle.std.specs.Bool.{MatchBool}
use Rattle.std.proofs.lemmas.Option.{none-some, slice_get_within}
use Rattle.flat_machine.specs.Moves.{IsUnrecoverable}
use Rattle.extent_groups.specs.declared.class.Class.{Class}
use Rattle.extent_groups.specs.declared.class.Class.TheVariants.{Mirrored, Parity}
use Rattle.extent_groups.specs.declared.class.Member.{Member}
use Rattle.extent_groups.specs.declared.role.Role.TheVariants.{Slot, ParityUnit, Unused}
use Rattle.extent_groups.specs.Geometry.{slot_count, parity_of}
use Rattle.extent_groups.specs.Groups.{Group, Groups, AreGroups, group_at, class_in, members_in, members_of, slots_in}
use Rattle.extent_groups.specs.Cells.{cells, held}
use Rattle.extent_groups.specs.Calls.{if_ok}
use Rattle.extent_groups.specs.Missing.{missing_of}
use Rattle.extent_groups.specs.Roles.{LiesAt, IsRole, IsRoleIn}
use Rattle.extent_groups.specs.Stores.{unit_bytes, unit_of, AreDrives}
use Rattle.extent_groups.specs.Units.{InStripe, row_of, unit_at, place_of, places_of, site_in}
use Rattle.extent_groups.proofs.Bounds.{slot_count_small}
use Rattle.extent_groups.proofs.Fading.{effective}
use Rattle.extent_groups.proofs.SlotWrites.{unit_at_site}
use Rattle.parity_store.specs.Ways.{parity_unit}
use Rattle.unit_store.specs.Shifting.{IsUnitFor}
use Rattle.unit_store.specs.Slots.{IsSlot}
use Rattle.unit_store.proofs.Offsets.{slot_at, row_at_index}
use Rattle.unit_store.proofs.UnitFor.{IsMemberAt, pair_unit_for, row_unit_for, unused_unit_for, pair_beyond, row_beyond}

-- a group that has a member is made
pub group_there : (o : Option Group) (k : ℕ) (m : Member) → slice_get (members_in o) k ≡ Some m → (group : Group) × (o ≡ Some group) × (slice_get group.members k ≡ Some m)
group_there None k m at = absurd (none-some m at)
group_there (Some group) k m at = (group, refl, at)

pub member_at : {D : Type 0} (units : D → List (List ℕ)) (t : Groups) (ds : List D) (g k o : ℕ) (was : Member) → AreGroups t → AreDrives units t ds → slice_get (members_of t g) k ≡ Some was
    → o < 2 * t.segments → (group : Group) × IsMemberAt units t ds g k o group was
member_at units t ds g k o was groups drives at low =
    let is = group_there (group_at t g) k was at in
    (is.0, record { groups = groups; drives = drives; made = is.1; at = is.2; low = low })

-- and its number below that of all
pub group_past : (t : Groups) (g : ℕ) → AreGroups t → (group_at t g ≡ None → ⊥) → g < 512
group_past t g groups made = by_place (slice_get t.table g) refl where
  by_place : (o : Option (Option Group)) → slice_get t.table g ≡ o → g < 512
  by_place None e = absurd (made (ap (λ x. unwrap_or x None) e))
  by_place (Some x) e = omega (arith, slice_get_within t.table g x e, groups.numbers)

pub group_below : (t : Groups) (g k : ℕ) (m : Member) → AreGroups t → slice_get (members_of t g) k ≡ Some m → g < 512
group_below t g k m groups at = group_past t g groups (λ none. none-some m (sym (ap (λ x. slice_get (members_in x) k) none) ∙ at))

-- the index of a role is small, and its slot one of the group's
pub role_slot : (t : Groups) (g k o i : ℕ) (group : Group) → AreGroups t → group_at t g ≡ Some group → IsRoleIn (group_at t g) t.segments k o (Slot i) → (i < 128) × IsSlot t (128 * g + i)
role_slot t g k o i group groups made role =
    let formed = groups.formed g group made in
    let is = subst (λ (x : Option Group). IsRoleIn x t.segments k o (Slot i)) made role in
    let small : i < 128 = omega (arith, slot_count_small group.class (length group.members) t.segments formed.few groups.segments.1, role_low group is) in
    let whole : (128 * g + i) / 128 ≡ g = omega (arith, small) in
    let rest : (128 * g + i) % 128 ≡ i = omega (arith, small) in
    let low : i < slots_in t.segments (group_at t g) = subst (λ x. i < slots_in t.segments x) (sym made) (role_low group is) in
    (small, subst (λ h. (128 * g + i) % 128 < slots_in t.segments (group_at t h)) (sym whole) (subst (λ j. j < slots_in t.segments (group_at t g)) (sym rest) low))
  where
    role_low : (group : Group) → IsRole group.class (length group.members) t.segments k o (Slot i) → i < slot_count group.class (length group.members) t.segments
    role_low group is = is.0

-- what a slot of a row has is the member's own unit, or the exclusive or of all others
row_slot : {D : Type 0} (units : D → List (List ℕ)) (lost : D → Bool) (t : Groups) (ds : List D) (g k o i : ℕ) (members : List Member) (was : Member)
    → IsMemberAt units t ds g k o (record { class = Parity; members = members }) was → i < 128 → i < slot_count Parity (length members) t.segments → LiesAt Parity (length members) i k o
    → unit_of t (cells units lost ds) (128 * g + i) ≡ effective (unit_bytes t) (length (places_of t.segments members o)) (row_of (cells units lost ds) (places_of t.segments members o)) k
row_slot units lost t ds g k o i members was is small low lies =
    unit_at_site t (cells units lost ds) (128 * g + i) (site_in t.segments Parity members i) (slot_at t g i (record { class = Parity; members = members }) is.made small low)
    ∙ ap (unit_at (unit_bytes t) (cells units lost ds)) (row_at_index t.segments members k o i lies)

slot_had : {D : Type 0} (units : D → List (List ℕ)) (lost : D → Bool) (t : Groups) (ds : List D) (g k o i : ℕ) (class : Class) (members : List Member) (was : Member) (u : List ℕ)
    → IsMemberAt units t ds g k o (record { class = class; members = members }) was → i < 128 → IsRole class (length members) t.segments k o (Slot i)
    → unit_of t (cells units lost ds) (128 * g + i) ≡ Some u → IsUnitFor t g k was o (cells units lost ds) (missing_of lost ds) (missing_of lost ds) u
slot_had units lost t ds g k o i Mirrored members was u is small role had = pair_unit_for units lost t ds g k o i members was u is small role.0 role.1 had
slot_had units lost t ds g k o i Parity members was u is small role had =
    row_unit_for units lost t ds g k o members was u is (sym (row_slot units lost t ds g k o i members was is small role.0 role.1) ∙ had)

slot_beyond : {D : Type 0} (units : D → List (List ℕ)) (lost : D → Bool) (t : Groups) (ds : List D) (g k o i : ℕ) (class : Class) (members : List Member) (was : Member)
    → IsMemberAt units t ds g k o (record { class = class; members = members }) was → i < 128 → IsRole class (length members) t.segments k o (Slot i)
    → unit_of t (cells units lost ds) (128 * g + i) ≡ None → IsUnrecoverable t (missing_of lost ds) g was.drive
slot_beyond units lost t ds g k o i Mirrored members was is small role none = pair_beyond units lost t ds g k o i members was is small role.0 role.1 none
slot_beyond units lost t ds g k o i Parity members was is small role none =
    row_beyond units lost t ds g k o members was is (sym (row_slot units lost t ds g k o i members was is small role.0 role.1) ∙ none)

-- a slot's unit was read
pub index_had : {D : Type 0} (units : D → List (List ℕ)) (lost : D → Bool) (t : Groups) (ds : List D) (g k o i : ℕ) (was : Member) (u : List ℕ)
    → AreGroups t → AreDrives units t ds → slice_get (members_of t g) k ≡ Some was → o < 2 * t.segments → IsRoleIn (group_at t g) t.segments k o (Slot i)
    → unit_of t (cells units lost ds) (128 * g + i) ≡ Some u → IsUnitFor t g k was o (cells units lost ds) (missing_of lost ds) (missing_of lost ds) u
index_had units lost t ds g k o i was u groups drives at low role had =
    let is = member_at units t ds g k o was groups drives at low in
    slot_had units lost t ds g k o i is.0.class is.0.members was u is.1 (role_slot t g k o i is.0 groups is.1.made role).0
    (subst (λ (x : Option Group). IsRoleIn x t.segments k o (Slot i)) is.1.made role) had

-- or it is gone
pub index_beyond : {D : Type 0} (units : D → List (List ℕ)) (lost : D → Bool) (t : Groups) (ds : List D) (g k o i : ℕ) (was : Member)
    → AreGroups t → AreDrives units t ds → slice_get (members_of t g) k ≡ Some was → o < 2 * t.segments → IsRoleIn (group_at t g) t.segments k o (Slot i)
    → unit_of t (cells units lost ds) (128 * g + i) ≡ None → IsUnrecoverable t (missing_of lost ds) g was.drive
index_beyond units lost t ds g k o i was groups drives at low role none =
    let is = member_at units t ds g k o was groups drives at low in
    slot_beyond units lost t ds g k o i is.0.class is.0.members was is.1 (role_slot t g k o i is.0 groups is.1.made role).0
    (subst (λ (x : Option Group). IsRoleIn x t.segments k o (Slot i)) is.1.made role) none

-- a group with a parity unit is a parity group
parity_class : (x : Option Group) (s k o : ℕ) (m : Member) → slice_get (members_in x) k ≡ Some m → IsRoleIn x s k o ParityUnit → class_in x ≡ Some Parity
parity_class None s k o m at role = absurd (none-some m at)
parity_class (Some group) s k o m at role = is group.class role where
  is : (class : Class) → IsRole class (length group.members) s k o ParityUnit → Some class ≡ Some Parity
  is Mirrored never = absurd never
  is Parity e = refl

pub parity_group : (t : Groups) (g k o : ℕ) (was : Member) → slice_get (members_of t g) k ≡ Some was → IsRoleIn (group_at t g) t.segments k o ParityUnit → class_in (group_at t g) ≡ Some Parity
parity_group t g k o was at role = parity_class (group_at t g) t.segments k o was at role

-- what the parity's member holds, or the exclusive or of all others
parity_row : {D : Type 0} (units : D → List (List ℕ)) (lost : D → Bool) (t : Groups) (ds : List D) (g k o : ℕ) (members : List Member) (was : Member)
    → IsMemberAt units t ds g k o (record { class = Parity; members = members }) was → k ≡ parity_of (length members) (o / 2)
    → parity_unit t (cells units lost ds) g o ≡ effective (unit_bytes t) (length (places_of t.segments members o)) (row_of (cells units lost ds) (places_of t.segments members o)) k
parity_row units lost t ds g k o members was is wanders =
    ap (λ ms. unit_at (unit_bytes t) (cells units lost ds) (InStripe (places_of t.segments ms o) (parity_of (length ms) (o / 2)) (parity_of (length ms) (o / 2)))) (ap members_in is.made)
    ∙ ap (λ i. effective (unit_bytes t) (length (places_of t.segments members o)) (row_of (cells units lost ds) (places_of t.segments members o)) i) (sym wanders)

row_outcome : {D : Type 0} (units : D → List (List ℕ)) (lost : D → Bool) (t : Groups) (ds : List D) (g k o : ℕ) (members : List Member) (was : Member) (u : List ℕ) (ok : Bool)
    → IsMemberAt units t ds g k o (record { class = Parity; members = members }) was
    → effective (unit_bytes t) (length (places_of t.segments members o)) (row_of (cells units lost ds) (places_of t.segments members o)) k ≡ if_ok ok u
    → MatchBool ok (IsUnitFor t g k was o (cells units lost ds) (missing_of lost ds) (missing_of lost ds) u) (IsUnrecoverable t (missing_of lost ds) g was.drive)
row_outcome units lost t ds g k o members was u true is e = row_unit_for units lost t ds g k o members was u is e
row_outcome units lost t ds g k o members was u false is e = row_beyond units lost t ds g k o members was is e

-- the parity unit was read, or can't be had
pub parity_outcome : {D : Type 0} (units : D → List (List ℕ)) (lost : D → Bool) (t : Groups) (ds : List D) (g k o : ℕ) (was : Member) (u : List ℕ) (ok : Bool)
    → AreGroups t → AreDrives units t ds → slice_get (members_of t g) k ≡ Some was → o < 2 * t.segments → IsRoleIn (group_at t g) t.segments k o ParityUnit
    → parity_unit t (cells units lost ds) g o ≡ if_ok ok u
    → MatchBool ok (IsUnitFor t g k was o (cells units lost ds) (missing_of lost ds) (missing_of lost ds) u) (IsUnrecoverable t (missing_of lost ds) g was.drive)
parity_outcome {D = D} units lost t ds g k o was u ok groups drives at low role reported =
    let is = member_at units t ds g k o was groups drives at low in
    by_class is.0.class is.0.members is.1 (subst (λ (x : Option Group). IsRoleIn x t.segments k o ParityUnit) is.1.made role)
  where
    by_class : (class : Class) (members : List Member) → IsMemberAt units t ds g k o (record { class = class; members = members }) was → IsRole class (length members) t.segments k o ParityUnit
        → MatchBool ok (IsUnitFor t g k was o (cells units lost ds) (missing_of lost ds) (missing_of lost ds) u) (IsUnrecoverable t (missing_of lost ds) g was.drive)
    by_class Mirrored members is never = absurd never
    by_class Parity members is wanders = row_outcome units lost t ds g k o members was u ok is (sym (parity_row units lost t ds g k o members was is wanders) ∙ reported)

-- the place where no slot lies was read, or taken for zeros
pub unused_had : {D : Type 0} (units : D → List (List ℕ)) (lost : D → Bool) (t : Groups) (ds : List D) (g k o : ℕ) (was : Member) (u : List ℕ)
    → AreGroups t → AreDrives units t ds → slice_get (members_of t g) k ≡ Some was → o < 2 * t.segments → IsRoleIn (group_at t g) t.segments k o Unused
    → (held (cells units lost ds) (place_of t.segments o was) ≡ Some u) ⊎ ((missing_of lost ds was.drive ≡ true) × (u ≡ replicate (unit_bytes t) 0))
    → IsUnitFor t g k was o (cells units lost ds) (missing_of lost ds) (missing_of lost ds) u
unused_had units lost t ds g k o was u groups drives at low role reported =
    let is = member_at units t ds g k o was groups drives at low in
    by_class is.0.class is.0.members is.1 (subst (λ (x : Option Group). IsRoleIn x t.segments k o Unused) is.1.made role)
  where
    by_class : (class : Class) (members : List Member) → IsMemberAt units t ds g k o (record { class = class; members = members }) was → IsRole class (length members) t.segments k o Unused
        → IsUnitFor t g k was o (cells units lost ds) (missing_of lost ds) (missing_of lost ds) u
    by_class Mirrored members is role_is = unused_unit_for units lost t ds g k o members was u is role_is reported
    by_class Parity members is never = absurd never
