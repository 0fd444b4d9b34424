-- The header of one slot more, and the rest of a group's numbers.
use Rattle.std.proofs.Common.{◌≡◌, ◌≢◌, ℕ, ◌+◌, ◌*◌, ◌/◌, ◌%◌, ◌^◌, ◌<◌, ◌≤◌, ◌⊎◌, inl, inr, false, max, Option, Some, None, List, refl, sym, ◌∙◌, ap, subst, arith, eq-eqb, if◌then◌else◌}
use Rattle.std.specs.Prelude.{◌==◌, Result, Ok, Err, IfOk, IfErr}
use Rattle.std.proofs.lemmas.Bool.Decides.{nat_tests}
use Rattle.map_join.specs.declared.records.Record.{Record}
use Rattle.map_join.specs.Record.{key_of, stamp_of, stamp_in}
use Rattle.map_join.specs.Maps.{Entries, at, IsSame, join, only}
use Rattle.extent_groups.specs.Groups.{Groups, group_at, slots_in}
use Rattle.extents.specs.declared.shape.TheConstants.{HEADER_BYTES}
use Rattle.extent_groups.specs.Cells.{Cells, front}
use Rattle.extent_groups.specs.Stores.{unit_of, header_of, AreSound, KeepsUnits}
use Rattle.std.proofs.lemmas.Bool.{cases_order}
use Rattle.extent_groups.proofs.Places.{same_or_not}
use Rattle.flat_machine.specs.Scanned.{HasHeader}
use Rattle.unit_store.specs.Slots.{IsSlot}
use Rattle.header_scan.specs.declared.fault.ScanFault.{ScanFault}
use Rattle.header_scan.specs.declared.fault.ScanFault.TheVariants.{Memory, BadHeader, WrongSlot, Twice, Gone, NoClaim, BadNote}
use Rattle.header_scan.specs.Faults.{SlotUnits, between, Reports, AreFine, IsFaultAt, IsFirstFault}
use Rattle.header_scan.specs.Found.{key_in, stamp_at, HasStamp, IsNoted, IsUnderway}
use Rattle.header_scan.proofs.Noting.{IsNext, newer, twin, third, older, as_well}
use Rattle.header_scan.proofs.Scanning.{Looked, has_unit, within, ranged, reported_record, reported_header, newest_stamp, twin_stamp}

last_or : (slot s : ℕ) → slot < s + 1 → (slot < s) ⊎ (slot ≡ s)
last_or slot s h = elim (cases_order slot s) [ inl e ↦ inr e | inr o ↦ inl (elim o [ inl below ↦ below | inr above ↦ absurd (omega arith) ]) ]

-- a look at sound units, over the units at the start
pub reports_kept : (blocks slot : ℕ) (bytes all : SlotUnits) (reported : Option Record) → ((other : ℕ) (v : List ℕ) → bytes other ≡ Some v → all other ≡ Some v) → Reports blocks bytes slot reported → Reports blocks all slot reported
reports_kept blocks slot bytes all reported keeps reports = (reports.0, keeps slot reports.0 reports.1, reports.2, reports.3, reports.4)

fine_more : (groups : Groups) (low s : ℕ) (bytes : SlotUnits) (reported : Option Record) → AreFine groups low s bytes → Reports groups.blocks bytes s reported → AreFine groups low (s + 1) bytes
fine_more groups low s bytes reported fine reports = λ slot is l h. elim (last_or slot s h) [
  | inl less ↦ fine slot is l less
  | inr q ↦ subst (λ x. (o : Option Record) × Reports groups.blocks bytes x o) (sym q) (reported, reports)
]

-- a stamp of the slots so far is one of more slots
grows : (low high more : ℕ) (bytes : SlotUnits) (block slot st : ℕ) → high ≤ more → HasStamp (between low high bytes) block slot st → HasStamp (between low more bytes) block slot st
grows low high more bytes block slot st wide h =
    let w = within low high bytes slot h.0 h.1 in
    let k = w.1 in
    (h.0, ranged low more bytes slot h.0 w.0 (omega (arith, k, wide)) w.2, h.2, h.3)

-- a stamp of one slot more is of the slots so far, or of that slot
back_or : (low s : ℕ) (bytes : SlotUnits) (block slot st : ℕ) → HasStamp (between low (s + 1) bytes) block slot st
    → HasStamp (between low s bytes) block slot st ⊎ ((slot ≡ s) × ((r : Record) × HasHeader bytes s r × (r.block ≡ block) × (stamp_of r ≡ st)))
back_or low s bytes block slot st h =
    let w = within low (s + 1) bytes slot h.0 h.1 in
    elim (last_or slot s w.1) [
      | inl less ↦ inl (h.0, ranged low s bytes slot h.0 w.0 less w.2, h.2, h.3)
      | inr q ↦ inr (q, (h.0, subst (λ x. HasHeader bytes x h.0) q w.2, h.2, h.3))
    ]

none_noted : (blocks low s : ℕ) (bytes : SlotUnits) (block n t : ℕ) → Reports blocks bytes s None → IsNoted (HasStamp (between low s bytes) block) n t → IsNoted (HasStamp (between low (s + 1) bytes) block) n t
none_noted blocks low s bytes block n t reports noted =
    as_well (HasStamp (between low s bytes) block) (HasStamp (between low (s + 1) bytes) block) n t n t (λ slot st h. grows low s (s + 1) bytes block slot st (omega arith) h)
    (λ slot st h. elim (back_or low s bytes block slot st h) [ inl old ↦ old | inr new ↦ absurd (let both : None ≡ Some new.1.0 = reported_record blocks bytes s None new.1.0 reports new.1.1 in cc) ])
    refl refl noted

other_noted : (blocks low s : ℕ) (bytes : SlotUnits) (r : Record) (block n t m u : ℕ) → Reports blocks bytes s (Some r) → block ≢ r.block → n ≡ m → t ≡ u → IsNoted (HasStamp (between low s bytes) block) n t
    → IsNoted (HasStamp (between low (s + 1) bytes) block) m u
other_noted blocks low s bytes r block n t m u reports ne one two noted =
    as_well (HasStamp (between low s bytes) block) (HasStamp (between low (s + 1) bytes) block) n t m u (λ slot st h. grows low s (s + 1) bytes block slot st (omega arith) h)
    (λ slot st h. elim (back_or low s bytes block slot st h) [
      | inl old ↦ old
      | inr new ↦ absurd (let both : Some r ≡ Some new.1.0 = reported_record blocks bytes s (Some r) new.1.0 reports new.1.1 in let same : r ≡ new.1.0 = cc in ne (sym (ap (λ (x : Record). x.block) same ∙ new.1.2)))
    ])
    one two noted

next : (blocks low s : ℕ) (bytes : SlotUnits) (r : Record) → low ≤ s → s < 2 ^ 16 → Reports blocks bytes s (Some r)
    → IsNext (HasStamp (between low s bytes) r.block) (HasStamp (between low (s + 1) bytes) r.block) s (stamp_of r)
next blocks low s bytes r l small reports = record {
  grows = λ slot st h. grows low s (s + 1) bytes r.block slot st (omega arith) h;
  here = (r, ranged low (s + 1) bytes s r l (omega arith) (reported_header blocks bytes s r reports), refl, refl);
  only = λ slot st h. elim (back_or low s bytes r.block slot st h) [
    | inl old ↦ inl old
    | inr new ↦ inr (new.0, (let both : Some r ≡ Some new.1.0 = reported_record blocks bytes s (Some r) new.1.0 reports new.1.1 in let same : r ≡ new.1.0 = cc in sym (ap (λ (x : Record). stamp_of x) same ∙ new.1.3)))
  ];
  below = λ slot st h. (within low s bytes slot h.0 h.1).1;
  great = let written = reports.4.written in omega (arith, written);
  small = small;
}

not_equal : (a b : ℕ) → a ≢ b → (a == b) ≡ false
not_equal a b ne = grind (arith, nat_tests)

max_none : (n : ℕ) → max n 0 ≡ n
max_none n = grind (arith, nat_tests)

max_more : (n k : ℕ) → n < k → max n k ≡ k
max_more n k h = grind (arith, nat_tests)

join_other : (M N : ℕ → ℕ) (r : Record) (b : ℕ) → IsSame N (join M (only r)) → b ≢ r.block → M b ≡ N b
join_other M N r b same ne = sym (same b ∙ ap (λ t. max (M b) (if t then key_of r else 0)) (not_equal b r.block ne) ∙ max_none (M b))

join_here : (M N : ℕ → ℕ) (r : Record) → IsSame N (join M (only r)) → M r.block < key_of r → N r.block ≡ key_of r
join_here M N r same less = same r.block ∙ ap (λ t. max (M r.block) (if t then key_of r else 0)) (eq-eqb r.block r.block refl) ∙ max_more (M r.block) (key_of r) less

-- the keys are noted of every block where they are of the record's, and the others are as they were
spread : (blocks low s : ℕ) (bytes : SlotUnits) (r : Record) (M T N U : ℕ → ℕ) → Reports blocks bytes s (Some r) → ((b : ℕ) → b ≢ r.block → M b ≡ N b) → ((b : ℕ) → b ≢ r.block → T b ≡ U b)
    → ((b : ℕ) → IsNoted (HasStamp (between low s bytes) b) (M b) (T b)) → IsNoted (HasStamp (between low (s + 1) bytes) r.block) (N r.block) (U r.block)
    → (b : ℕ) → IsNoted (HasStamp (between low (s + 1) bytes) b) (N b) (U b)
spread blocks low s bytes r M T N U reports one two noted here b = elim (same_or_not b r.block) [
  | inl q ↦ subst (λ x. IsNoted (HasStamp (between low (s + 1) bytes) x) (N x) (U x)) (sym q) here
  | inr ne ↦ other_noted blocks low s bytes r b (M b) (T b) (N b) (U b) reports ne (one b ne) (two b ne) (noted b)
]

-- what a note of a record says, where it isn't refused
pub record IsNote (M : List ℕ) (T : Entries) (N : List ℕ) (U : Entries) (r : Record) : Type 0 where
  pub newer : stamp_at (key_in M) r.block < stamp_of r → IsSame (key_in N) (join (key_in M) (only r)) × (U ≡ T)
  pub twin : stamp_at (key_in M) r.block ≡ stamp_of r → stamp_at (at T) r.block < stamp_of r → (N ≡ M) × IsSame (at U) (join (at T) (only r))
  pub older : stamp_of r < stamp_at (key_in M) r.block → (N ≡ M) × (U ≡ T)
  pub third : stamp_at (key_in M) r.block ≡ stamp_of r → stamp_of r ≤ stamp_at (at T) r.block → (N ≡ M) × (U ≡ T)

pub some_noted : (blocks low s : ℕ) (bytes : SlotUnits) (r : Record) (M : List ℕ) (T : Entries) (N : List ℕ) (U : Entries) → low ≤ s → s < 2 ^ 16 → Reports blocks bytes s (Some r) → IsNote M T N U r
    → ((b : ℕ) → IsNoted (HasStamp (between low s bytes) b) (key_in M b) (at T b)) → (b : ℕ) → IsNoted (HasStamp (between low (s + 1) bytes) b) (key_in N b) (at U b)
some_noted blocks low s bytes r M T N U l small reports note noted =
    elim (cases_order (stamp_of r) (stamp_at (key_in M) r.block)) [
      | inl e ↦ elim (cases_order (stamp_of r) (stamp_at (at T) r.block)) [
        | inl f ↦ kept (note.third (sym e) (omega (arith, f))) (third Old New s (stamp_of r) n t step here (omega (arith, e, top)) (omega (arith, f, again)))
        | inr o ↦ elim o [
          | inl below ↦ kept (note.third (sym e) (omega (arith, below))) (third Old New s (stamp_of r) n t step here (omega (arith, e, top)) (omega (arith, below, again)))
          | inr above ↦
              (let changed = note.twin (sym e) above in
              let less : t < key_of r = omega (arith, above, again) in
              let is : at U r.block ≡ stamp_of r * 2 ^ 16 + s = join_here (at T) (at U) r changed.1 less ∙ key in
              spread blocks low s bytes r (key_in M) (at T) (key_in N) (at U) reports (λ b ne. ap (λ (x : List ℕ). key_in x b) (sym changed.0)) (λ b ne. join_other (at T) (at U) r b changed.1 ne) noted
              (subst (λ (x : List ℕ). IsNoted New (key_in x r.block) (at U r.block)) (sym changed.0) (twin Old New s (stamp_of r) n t (at U r.block) step here (omega (arith, e, top)) (omega (arith, above, again)) is)))
        ]
      ]
      | inr o ↦ elim o [
        | inl below ↦ kept (note.older below) (older Old New s (stamp_of r) n t step here (omega (arith, below, top)))
        | inr above ↦
            (let changed = note.newer above in
            let less : n < key_of r = omega (arith, above, top) in
            let is : key_in N r.block ≡ stamp_of r * 2 ^ 16 + s = join_here (key_in M) (key_in N) r changed.0 less ∙ key in
            spread blocks low s bytes r (key_in M) (at T) (key_in N) (at U) reports (λ b ne. join_other (key_in M) (key_in N) r b changed.0 ne) (λ b ne. ap (λ (x : Entries). at x b) (sym changed.1)) noted
            (subst (λ (x : Entries). IsNoted New (key_in N r.block) (at x r.block)) (sym changed.1) (newer Old New s (stamp_of r) n t (key_in N r.block) step here (omega (arith, above, top)) is)))
      ]
    ] where
      Old : ℕ → ℕ → Type 0
      Old = HasStamp (between low s bytes) r.block

      New : ℕ → ℕ → Type 0
      New = HasStamp (between low (s + 1) bytes) r.block

      n : ℕ
      n = key_in M r.block

      t : ℕ
      t = at T r.block

      here : IsNoted Old n t
      here = noted r.block

      step : IsNext Old New s (stamp_of r)
      step = next blocks low s bytes r l small reports

      top : stamp_at (key_in M) r.block ≡ stamp_in n
      top = newest_stamp (between low s bytes) r.block n t here

      again : stamp_at (at T) r.block ≡ stamp_in t
      again = twin_stamp (between low s bytes) r.block n t here

      key : key_of r ≡ stamp_of r * 2 ^ 16 + s
      key = let place : r.place ≡ s = reports.3.1 in omega (arith, place)

      kept : (N ≡ M) × (U ≡ T) → IsNoted New n t → (b : ℕ) → IsNoted (HasStamp (between low (s + 1) bytes) b) (key_in N b) (at U b)
      kept same is = spread blocks low s bytes r (key_in M) (at T) (key_in N) (at U) reports (λ b ne. ap (λ (x : List ℕ). key_in x b) (sym same.0)) (λ b ne. ap (λ (x : Entries). at x b) (sym same.1)) noted
          (subst (λ (x : List ℕ). IsNoted New (key_in x r.block) (at U r.block)) (sym same.0) (subst (λ (x : Entries). IsNoted New n (at x r.block)) (sym same.1) is))

-- one slot more is read, which holds nothing
pub none_more : (groups : Groups) (start c new : Cells) (low s : ℕ) (M T : ℕ → ℕ) → IsUnderway groups start c low s M T → Looked groups groups c new groups.blocks s (Ok None) → IsUnderway groups start new low (s + 1) M T
none_more groups start c new low s M T was look =
    let reports : Reports groups.blocks (unit_of groups start) s None = reports_kept groups.blocks s (unit_of groups c) (unit_of groups start) None was.keeps (look.0 was.sound) in
    record {
      sound = look.3 was.sound;
      keeps = λ other v e. was.keeps other v (look.2 was.sound other v e);
      fine = fine_more groups low s (unit_of groups start) None was.fine reports;
      noted = λ block. none_noted groups.blocks low s (unit_of groups start) block (M block) (T block) reports (was.noted block);
    }

-- or holds a record, which is noted
pub some_more : (groups : Groups) (start c new : Cells) (low s : ℕ) (r : Record) (M : List ℕ) (T : Entries) (N : List ℕ) (U : Entries) → low ≤ s → s < 2 ^ 16 → IsNote M T N U r
    → IsUnderway groups start c low s (key_in M) (at T) → Looked groups groups c new groups.blocks s (Ok (Some r)) → IsUnderway groups start new low (s + 1) (key_in N) (at U)
some_more groups start c new low s r M T N U l small note was look =
    let reports : Reports groups.blocks (unit_of groups start) s (Some r) = reports_kept groups.blocks s (unit_of groups c) (unit_of groups start) (Some r) was.keeps (look.0 was.sound) in
    record {
      sound = look.3 was.sound;
      keeps = λ other v e. was.keeps other v (look.2 was.sound other v e);
      fine = fine_more groups low s (unit_of groups start) (Some r) was.fine reports;
      noted = some_noted groups.blocks low s (unit_of groups start) r M T N U l small reports note was.noted;
    }

-- a slot's fault is the first one of the scan, where all before it are fine
fault_first : (groups : Groups) (low high s : ℕ) (bytes all left : SlotUnits) (e : ScanFault) → ((other : ℕ) (v : List ℕ) → bytes other ≡ Some v → all other ≡ Some v) → IsSlot groups s → low ≤ s → s < high → AreFine groups low s all
    → IsFaultAt groups.blocks bytes left s e → IsFirstFault groups low high all left e
fault_first groups low high s bytes all left Memory keeps is l h fine at = tt
fault_first groups low high s bytes all left (BadHeader p) keeps is l h fine at = (s, is, l, h, (at.0, (at.1.0, keeps s at.1.0 at.1.1, at.1.2)), fine)
fault_first groups low high s bytes all left (WrongSlot p q) keeps is l h fine at = (s, is, l, h, (at.0, at.1, (at.2.0, (at.2.1.0, keeps s at.2.1.0 at.2.1.1, at.2.1.2), at.2.2, at.2.3)), fine)
fault_first groups low high s bytes all left (Twice b p q) keeps is l h fine at = absurd at
fault_first groups low high s bytes all left (Gone p) keeps is l h fine at = (s, is, l, h, at, fine)
fault_first groups low high s bytes all left (NoClaim p) keeps is l h fine at = absurd at
fault_first groups low high s bytes all left (BadNote p) keeps is l h fine at = absurd at

pub first_fault : (groups : Groups) (start c new : Cells) (low high s : ℕ) (M T : ℕ → ℕ) (e : ScanFault) → IsSlot groups s → low ≤ s → s < high → IsUnderway groups start c low s M T
    → Looked groups groups c new groups.blocks s (Err e) → IsFirstFault groups low high (unit_of groups start) (unit_of groups new) e
first_fault groups start c new low high s M T e is l h was look =
    fault_first groups low high s (unit_of groups c) (unit_of groups start) (unit_of groups new) e was.keeps is l h was.fine (look.1 was.sound)

-- a group's slots are all that there are of its numbers
pub group_over : (groups : Groups) (start now : Cells) (low g count : ℕ) (M T : ℕ → ℕ) → count ≡ slots_in groups.segments (group_at groups g) → count < 128
    → IsUnderway groups start now low (128 * g + count) M T → IsUnderway groups start now low (128 * g + 128) M T
group_over groups start now low g count M T is few was = record {
  sound = was.sound;
  keeps = was.keeps;
  fine = λ slot at l h. was.fine slot at l (last slot at h);
  noted = λ block. as_well (HasStamp (between low (128 * g + count) (unit_of groups start)) block) (HasStamp (between low (128 * g + 128) (unit_of groups start)) block) (M block) (T block) (M block) (T block)
      (λ slot st h. grows low (128 * g + count) (128 * g + 128) (unit_of groups start) block slot st (omega arith) h)
      (λ slot st h. let w = within low (128 * g + 128) (unit_of groups start) slot h.0 h.1 in
      (h.0, ranged low (128 * g + count) (unit_of groups start) slot h.0 w.0 (last slot (has_unit groups start slot w.2.0 w.2.1) w.1) w.2, h.2, h.3))
      refl refl (was.noted block);
} where
  last : (slot : ℕ) → IsSlot groups slot → slot < 128 * g + 128 → slot < 128 * g + count
  last slot at h = elim (same_or_not (slot / 128) g) [
    | inl q ↦ (let here : slot % 128 < slots_in groups.segments (group_at groups g) = subst (λ x. slot % 128 < slots_in groups.segments (group_at groups x)) q at in omega (arith, here, is, q))
    | inr ne ↦ elim (cases_order (slot / 128) g) [ inl e ↦ absurd (ne e) | inr o ↦ elim o [ inl below ↦ omega (arith, below) | inr above ↦ absurd (omega (arith, above, h)) ] ]
  ]

-- a slot of a group
pub is_slot : (groups : Groups) (g index : ℕ) → index < slots_in groups.segments (group_at groups g) → index < 128 → IsSlot groups (128 * g + index)
is_slot groups g index h few =
    let group : g ≡ (128 * g + index) / 128 = omega (arith, few) in
    let at : index ≡ (128 * g + index) % 128 = omega (arith, few) in
    subst (λ x. x < slots_in groups.segments (group_at groups ((128 * g + index) / 128))) at (subst (λ x. index < slots_in groups.segments (group_at groups x)) group h)

-- what a look at a header that was read returned, over the reads of its group
pub look_of : (groups after : Groups) (c new : Cells) (blocks slot : ℕ) (header : List ℕ) (result out : Result (Option Record) ScanFault) → blocks ≡ groups.blocks → after ≡ groups → result ≡ out
    → (AreSound groups c → header_of groups c slot ≡ Some header)
    → ((bytes : SlotUnits) → front HEADER_BYTES (bytes slot) ≡ Some header → IfOk result (Reports blocks bytes slot))
    → ((bytes left : SlotUnits) → front HEADER_BYTES (bytes slot) ≡ Some header → IfErr result (IsFaultAt blocks bytes left slot))
    → (AreSound groups c → KeepsUnits groups c new) → (AreSound groups c → AreSound after new) → Looked groups groups c new groups.blocks slot out
look_of groups after c new blocks slot header result out many same is read ok err units sound =
    subst (λ r. Looked groups groups c new groups.blocks slot r) is (subst (λ n. Looked groups groups c new n slot result) many (
      λ s. ok (unit_of groups c) (read s),
      λ s. err (unit_of groups c) (unit_of groups new) (read s),
      units,
      λ s. subst (λ x. AreSound x new) same (sound s),
    ))

-- and of a slot that is gone
pub gone_of : (groups after : Groups) (c new : Cells) (slot : ℕ) → after ≡ groups → unit_of after new slot ≡ None → (AreSound groups c → KeepsUnits groups c new) → (AreSound groups c → AreSound after new)
    → Looked groups groups c new groups.blocks slot (Err (Gone slot))
gone_of groups after c new slot same none units sound = (
  λ s. tt,
  λ s. (refl, subst (λ x. unit_of x new slot ≡ None) same none),
  units,
  λ s. subst (λ x. AreSound x new) same (sound s),
)

-- what was noted of headers, over what is left after their group's reads
pub read_on : (groups after : Groups) (start c new : Cells) (low s : ℕ) (M T : ℕ → ℕ) → after ≡ groups → (AreSound groups c → KeepsUnits groups c new) → (AreSound groups c → AreSound after new)
    → IsUnderway groups start c low s M T → IsUnderway groups start new low s M T
read_on groups after start c new low s M T same units sound was = record {
  sound = subst (λ x. AreSound x new) same (sound was.sound);
  keeps = λ slot v e. was.keeps slot v (units was.sound slot v e);
  fine = was.fine;
  noted = was.noted;
}

-- the slots of a group, counted by the table of the groups
pub slot_in : (groups table : Groups) (g index count : ℕ) → table ≡ groups → count ≡ slots_in table.segments (group_at table g) → count < 128 → index < count → IsSlot groups (128 * g + index)
slot_in groups table g index count one is few h =
    let own : count ≡ slots_in groups.segments (group_at groups g) = subst (λ x. count ≡ slots_in x.segments (group_at x g)) one is in
    is_slot groups g index (subst (λ n. index < n) own h) (omega (arith, few, h))
