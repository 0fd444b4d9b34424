-- One more slot is scanned.
use Rattle.std.proofs.Common.{◌≡◌, ℕ, ◌+◌, ◌*◌, ◌/◌, ◌%◌, ◌^◌, ◌<◌, ◌≤◌, ◌⊎◌, inl, inr, Bool, true, false, Option, Some, None, List, take, refl, sym, ◌∙◌, ap, subst, arith, nat_lt, zero, suc, if◌then◌else◌}
use Rattle.std.specs.Prelude.{◌&&◌, nat_le, Result, IfOk, IfErr}
use Rattle.std.proofs.lemmas.Bool.Decides.{nat_tests}
use Rattle.std.proofs.lemmas.Option.{same_Some, none-some}
use Rattle.map_join.specs.declared.records.Record.{Record}
use Rattle.map_join.specs.Record.{stamp_in, record_at, record_of}
use Rattle.map_join.specs.Maps.{at}
use Rattle.extents.specs.declared.header.Header.{Header}
use Rattle.extents.specs.declared.header.Header.TheVariants.{Blank, Is}
use Rattle.extents.specs.Header.{Spells, record_in}
use Rattle.extents.proofs.Headers.{one_header}
use Rattle.extent_groups.specs.Groups.{Groups, group_at, slots_in}
use Rattle.extent_groups.specs.Cells.{Cells}
use Rattle.extent_groups.specs.Units.{Site, site_of, unit_in}
use Rattle.extent_groups.specs.Stores.{unit_bytes, unit_of, AreSound, KeepsUnits}
use Rattle.extent_groups.proofs.LayoutLaw.{slot_of}
use Rattle.flat_machine.specs.Scanned.{HasHeader}
use Rattle.unit_store.specs.Slots.{IsSlot}
use Rattle.header_scan.specs.declared.fault.ScanFault.{ScanFault}
use Rattle.header_scan.specs.Faults.{SlotUnits, between, Reports, IsFaultAt}
use Rattle.header_scan.specs.Found.{place_in, stamp_in_option, HasStamp, IsNoted}

-- what a look returns for a slot, over one and the same groups
abbrev pub Looked : Groups → Groups → Cells → Cells → ℕ → ℕ → Result (Option Record) ScanFault → Type 0
Looked groups after c new blocks slot result =
    (AreSound groups c → IfOk result (Reports blocks (unit_of groups c) slot))
    × (AreSound groups c → IfErr result (IsFaultAt blocks (unit_of groups c) (unit_of after new) slot))
    × (AreSound groups c → KeepsUnits groups c new)
    × (AreSound groups c → AreSound after new)

-- a slot that lies somewhere, or has a unit, is one of a made group
pub slot_at : (groups : Groups) (slot : ℕ) (site : Site) → site_of groups slot ≡ Some site → IsSlot groups slot
slot_at groups slot site at =
    let is = slot_of groups.segments (group_at groups (slot / 128)) (slot % 128) site at in
    subst (λ o. slot % 128 < slots_in groups.segments o) (sym is.made) is.below

has_site : (groups : Groups) (c : Cells) (slot : ℕ) (v : List ℕ) (o : Option Site) → site_of groups slot ≡ o → unit_in (unit_bytes groups) c o ≡ Some v → IsSlot groups slot
has_site groups c slot v None at e = absurd (none-some v e)
has_site groups c slot v (Some site) at e = slot_at groups slot site at

pub has_unit : (groups : Groups) (c : Cells) (slot : ℕ) (v : List ℕ) → unit_of groups c slot ≡ Some v → IsSlot groups slot
has_unit groups c slot v e = has_site groups c slot v (site_of groups slot) refl e

-- units of a range
chosen : (b : Bool) (o : Option (List ℕ)) (v : List ℕ) → (if b then o else None) ≡ Some v → (b ≡ true) × (o ≡ Some v)
chosen true o v e = (refl, e)
chosen false o v e = absurd (none-some v e)

in_range : (low high slot : ℕ) → (nat_le low slot && nat_lt slot high) ≡ true → (low ≤ slot) × (slot < high)
in_range low high slot e = ((grind (arith, nat_tests)), (grind (arith, nat_tests)))

is_range : (low high slot : ℕ) → low ≤ slot → slot < high → (nat_le low slot && nat_lt slot high) ≡ true
is_range low high slot l h = grind (arith, nat_tests)

pub in_between : (low high : ℕ) (bytes : SlotUnits) (slot : ℕ) (v : List ℕ) → between low high bytes slot ≡ Some v → (low ≤ slot) × (slot < high) × (bytes slot ≡ Some v)
in_between low high bytes slot v e =
    let c = chosen (nat_le low slot && nat_lt slot high) (bytes slot) v e in
    let b = in_range low high slot c.0 in
    (b.0, b.1, c.1)

pub within : (low high : ℕ) (bytes : SlotUnits) (slot : ℕ) (r : Record) → HasHeader (between low high bytes) slot r → (low ≤ slot) × (slot < high) × HasHeader bytes slot r
within low high bytes slot r h = let is = in_between low high bytes slot h.0 h.1 in (is.0, is.1, (h.0, is.2, h.2))

pub ranged : (low high : ℕ) (bytes : SlotUnits) (slot : ℕ) (r : Record) → low ≤ slot → slot < high → HasHeader bytes slot r → HasHeader (between low high bytes) slot r
ranged low high bytes slot r l k h = (h.0, ap (λ b. if b then bytes slot else None) (is_range low high slot l k) ∙ h.1, h.2)

-- where the header of a slot holds a record, a look at the slot returns that record
pub reported_record : (blocks : ℕ) (bytes : SlotUnits) (slot : ℕ) (reported : Option Record) (r : Record) → Reports blocks bytes slot reported → HasHeader bytes slot r → reported ≡ Some r
reported_record blocks bytes slot reported r reports h =
    let same : reports.0 ≡ h.0 = same_Some _ _ (sym reports.1 ∙ h.1) in
    let spelled : Spells (take 32 h.0) reports.2.0 = subst (λ u. Spells (take 32 u) reports.2.0) same reports.2.1 in
    sym reports.2.2 ∙ ap record_in (one_header (take 32 h.0) reports.2.0 h.2.0 spelled h.2.1) ∙ h.2.2

-- and where a look returns a record, the header of the slot holds it
pub reported_header : (blocks : ℕ) (bytes : SlotUnits) (slot : ℕ) (r : Record) → Reports blocks bytes slot (Some r) → HasHeader bytes slot r
reported_header blocks bytes slot r reports = (reports.0, reports.1, (reports.2.0, reports.2.1, reports.2.2))

-- a record that a header holds was written: it has a version
reported_written : (b : List ℕ) (h : Header) (r : Record) → Spells b h → record_in h ≡ Some r → 0 < r.version
reported_written b Blank r reported e = absurd (let both : None ≡ Some r = e in cc)
reported_written b (Is q k) r reported e = subst (λ (x : Record). 0 < x.version) (same_Some q r e) reported.0.written

-- a stamp of a header has a version
pub great_stamp : (bytes : SlotUnits) (block slot st : ℕ) → HasStamp bytes block slot st → 2 ^ 16 ≤ st
great_stamp bytes block slot st h =
    let written = reported_written (take 32 h.1.0) h.1.2.0 h.0 h.1.2.1 h.1.2.2 in
    let is = h.3 in
    omega (arith, written, is)

-- the stamp of a map's record is that of its key
stamp_of_key : (block key : ℕ) → (key ≡ 0) ⊎ (2 ^ 32 ≤ key) → stamp_in_option (record_at block key) ≡ stamp_in key
stamp_of_key block key (inl none) =
    let low : nat_lt key (2 ^ 32) ≡ true = grind (arith, nat_tests) in
    let nothing : 0 ≡ stamp_in key = omega (arith, none) in
    ap (λ b. stamp_in_option (if b then None else Some (record_of block key))) low ∙ nothing
stamp_of_key block key (inr some) =
    let high : nat_lt key (2 ^ 32) ≡ false = grind (arith, nat_tests) in
    let whole : key / 2 ^ 32 * 2 ^ 16 + key / 2 ^ 16 % 2 ^ 16 ≡ stamp_in key = omega arith in
    ap (λ b. stamp_in_option (if b then None else Some (record_of block key))) high ∙ whole

none_or : (n : ℕ) → (n ≡ 0) ⊎ (0 < n)
none_or zero = inl refl
none_or (suc n) = inr (omega arith)

pub key_size : (bytes : SlotUnits) (block n t : ℕ) → IsNoted (HasStamp bytes block) n t → (n ≡ 0) ⊎ (2 ^ 32 ≤ n)
key_size bytes block n t noted = elim (none_or n) [
  | inl none ↦ inl none
  | inr some ↦ inr (let great = great_stamp bytes block (place_in n) (stamp_in n) (noted.found some) in omega (arith, great))
]

pub twin_size : (bytes : SlotUnits) (block n t : ℕ) → IsNoted (HasStamp bytes block) n t → (t ≡ 0) ⊎ (2 ^ 32 ≤ t)
twin_size bytes block n t noted = elim (none_or t) [
  | inl none ↦ inl none
  | inr some ↦ inr (let great = great_stamp bytes block (place_in t) (stamp_in t) (noted.again some).0 in omega (arith, great))
]

pub newest_stamp : (bytes : SlotUnits) (block n t : ℕ) → IsNoted (HasStamp bytes block) n t → stamp_in_option (record_at block n) ≡ stamp_in n
newest_stamp bytes block n t noted = stamp_of_key block n (key_size bytes block n t noted)

pub twin_stamp : (bytes : SlotUnits) (block n t : ℕ) → IsNoted (HasStamp bytes block) n t → stamp_in_option (record_at block t) ≡ stamp_in t
twin_stamp bytes block n t noted = stamp_of_key block t (twin_size bytes block n t noted)
