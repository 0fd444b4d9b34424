-- What is noted of all slots of a range, as the map of their headers, or as the lowest block that has its greatest stamp
-- twice.
use Rattle.std.proofs.Common.{◌≡◌, ℕ, ◌^◌, ◌<◌, ◌≤◌, inl, inr, Some, refl, sym, ◌∙◌, subst, arith}
use Rattle.map_join.specs.declared.records.Record.{Record}
use Rattle.map_join.specs.Record.{key_of, stamp_of, stamp_in}
use Rattle.extent_groups.specs.Groups.{Groups}
use Rattle.extent_groups.specs.Cells.{Cells}
use Rattle.extent_groups.specs.Stores.{unit_of, AreSound}
use Rattle.flat_machine.specs.Scanned.{HasHeader, IsScanned}
use Rattle.header_scan.specs.Faults.{SlotUnits, between, Reports, AreFine, IsTwice}
use Rattle.header_scan.specs.Found.{place_in, HasStamp, IsNoted, IsTwin, IsUnderway}
use Rattle.header_scan.proofs.Noting.{most}
use Rattle.header_scan.proofs.Scanning.{has_unit, within, reported_record, great_stamp}

-- nothing is noted of no slots
nothing : (low : ℕ) (bytes : SlotUnits) (block slot st : ℕ) → HasStamp (between low low bytes) block slot st → ⊥
nothing low bytes block slot st h = let w = within low low bytes slot h.0 h.1 in let a = w.0 in let b = w.1 in omega (arith, a, b)

none_noted : (low : ℕ) (bytes : SlotUnits) (block n t : ℕ) → n ≡ 0 → t ≡ 0 → IsNoted (HasStamp (between low low bytes) block) n t
none_noted low bytes block n t one two = record {
  found = λ h. absurd (omega (arith, h, one));
  first = λ slot st h. absurd (nothing low bytes block slot st h);
  again = λ h. absurd (omega (arith, h, two));
  second = λ slot st h same. absurd (nothing low bytes block slot st h);
}

pub begun : (groups : Groups) (start : Cells) (low : ℕ) (M T : ℕ → ℕ) → AreSound groups start → ((b : ℕ) → M b ≡ 0) → ((b : ℕ) → T b ≡ 0) → IsUnderway groups start start low low M T
begun groups start low M T sound one two = record {
  sound = sound;
  keeps = λ slot v e. e;
  fine = λ slot is l h. absurd (omega (arith, l, h));
  noted = λ b. none_noted low (unit_of groups start) b (M b) (T b) (one b) (two b);
}

-- of slots that are fine, a header that is there is read
pub own_reported : (groups : Groups) (start : Cells) (low high slot : ℕ) (r : Record) → AreFine groups low high (unit_of groups start) → HasHeader (between low high (unit_of groups start)) slot r
    → Reports groups.blocks (unit_of groups start) slot (Some r)
own_reported groups start low high slot r fine h =
    let w = within low high (unit_of groups start) slot r h in
    let reported = fine slot (has_unit groups start slot w.2.0 w.2.1) w.0 w.1 in
    subst (λ o. Reports groups.blocks (unit_of groups start) slot o) (reported_record groups.blocks (unit_of groups start) slot reported.0 r reported.1 w.2) reported.1

-- and names its own slot
pub own_place : (groups : Groups) (start : Cells) (low high slot : ℕ) (r : Record) → AreFine groups low high (unit_of groups start) → HasHeader (between low high (unit_of groups start)) slot r
    → (r.place ≡ slot) × (r.block < groups.blocks)
own_place groups start low high slot r fine h = let reports = own_reported groups start low high slot r fine h in (reports.3.1, reports.3.0)

record_key : (r : Record) (slot key : ℕ) → r.place ≡ slot → slot ≡ place_in key → stamp_of r ≡ stamp_in key → key_of r ≡ key
record_key r slot key place is stamp = omega (arith, place, is, stamp)

below : (r : Record) (slot key : ℕ) → r.place ≡ slot → slot < 2 ^ 16 → stamp_of r < stamp_in key → key_of r ≤ key
below r slot key place small less = omega (arith, place, small, less)

-- without a twin, the keys are those of the headers
pub scanned : (groups : Groups) (start now : Cells) (low high : ℕ) (M T : ℕ → ℕ) → high ≤ 2 ^ 16 → IsUnderway groups start now low high M T → ((b : ℕ) → IsTwin (M b) (T b) → ⊥)
    → IsScanned (between low high (unit_of groups start)) M
scanned groups start now low high M T small_high under once = record {
  found = λ b some.
      let h = (under.noted b).found some in
      (place_in (M b), h.0, h.1, h.2, record_key h.0 (place_in (M b)) (M b) (own_place groups start low high (place_in (M b)) h.0 under.fine h.1).0 refl h.3);
  most = λ slot r h.
      let noted = under.noted r.block in
      let own = (own_place groups start low high slot r under.fine h).0 in
      let l = (within low high (unit_of groups start) slot r h).1 in
      let great = great_stamp (between low high (unit_of groups start)) r.block slot (stamp_of r) (r, h, refl, refl) in
      elim (noted.first slot (stamp_of r) (r, h, refl, refl)) [
        | inl less ↦ below r slot (M r.block) own (omega (arith, l, small_high)) less
        | inr same ↦ elim (noted.second slot (stamp_of r) (r, h, refl, refl) same.0) [
          | inl q ↦ (let e = record_key r slot (M r.block) own q same.0 in omega (arith, e))
          | inr both ↦ absurd (once r.block (let e = same.0 in let f = both.0 in ((omega (arith, e, f, great)), both.0)))
        ]
      ];
}

-- and with one, the lowest is that of the lowest block that occurs twice
pub twice : (groups : Groups) (start now : Cells) (low high b : ℕ) (M T : ℕ → ℕ) → IsUnderway groups start now low high M T → IsTwin (M b) (T b)
    → IsTwice (between low high (unit_of groups start)) b (place_in (M b)) (place_in (T b))
twice groups start now low high b M T under twin =
    let noted = under.noted b in
    let same = twin.1 in
    let t = noted.again twin.0 in
    let great = great_stamp (between low high (unit_of groups start)) b (place_in (T b)) (stamp_in (T b)) t.0 in
    let n = noted.found (omega (arith, same, great)) in
    record {
      one = n.0;
      other = t.0.0;
      here = (n.1, n.2);
      there = (t.0.1, t.0.2);
      order = t.1 same;
      same = t.0.3 ∙ same ∙ sym n.3;
      most = λ slot r h block. let less = most (HasStamp (between low high (unit_of groups start)) b) (M b) (T b) slot (stamp_of r) noted (r, h, block, refl) in let top = n.3 in omega (arith, less, top);
      lowest = λ slot r h block equal. elim (noted.second slot (stamp_of r) (r, h, block, refl) (equal ∙ n.3)) [ inl q ↦ inl q | inr both ↦ inr both.1 ];
    }

-- a block that occurs twice is noted as such
pub noted_twice : (groups : Groups) (start now : Cells) (low high b p q : ℕ) (M T : ℕ → ℕ) → IsUnderway groups start now low high M T → IsTwice (between low high (unit_of groups start)) b p q → IsTwin (M b) (T b) × (b < groups.blocks)
noted_twice groups start now low high b p q M T under is =
    let bytes : SlotUnits = between low high (unit_of groups start) in
    let noted = under.noted b in
    let one : HasStamp bytes b p (stamp_of is.one) = (is.one, is.here.0, is.here.1, refl) in
    let two : HasStamp bytes b q (stamp_of is.one) = (is.other, is.there.0, is.there.1, is.same) in
    let great = great_stamp bytes b p (stamp_of is.one) one in
    let block : is.one.block ≡ b = is.here.1 in
    let own = (own_place groups start low high p is.one under.fine is.here.0).1 in
    let less : stamp_of is.one ≤ stamp_in (M b) = most (HasStamp bytes b) (M b) (T b) p (stamp_of is.one) noted one in
    let n = noted.found (omega (arith, less, great)) in
    let back : stamp_of n.0 ≤ stamp_of is.one = is.most (place_in (M b)) n.0 n.1 n.2 in
    let top : stamp_of is.one ≡ stamp_in (M b) = let e = n.3 in omega (arith, less, back, e) in
    let order = is.order in (
      (elim (noted.second p (stamp_of is.one) one top) [
        | inr both ↦ (let e = both.0 in ((omega (arith, e, top, great)), both.0))
        | inl e ↦ elim (noted.second q (stamp_of is.one) two top) [
          | inr both ↦ (let f = both.0 in ((omega (arith, f, top, great)), both.0))
          | inl f ↦ absurd (omega (arith, e, f, order))
        ]
      ]),
      omega (arith, own, block),
    )
