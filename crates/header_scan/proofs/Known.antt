-- The faults of a scan over units that hold a map: out of memory, or a slot that is gone.
use Rattle.std.proofs.Common.{◌≡◌, ℕ, ◌^◌, ◌<◌, ◌≤◌, ◌⊎◌, inl, inr, Some, None, Option, List, Bool, take, refl, sym, ◌∙◌, ap, subst, arith}
use Rattle.std.specs.Prelude.{is_some}
use Rattle.extents.specs.Failures.{Failures}
use Rattle.map_join.specs.declared.records.Record.{Record}
use Rattle.map_join.specs.Record.{key_of, record_of, stamp_of, stamp_in}
use Rattle.extents.specs.declared.header.Header.{Header}
use Rattle.extents.specs.Header.{Spells, record_in}
use Rattle.extent_groups.specs.Cells.{Cells}
use Rattle.extent_groups.specs.Groups.{AreGroups, Groups}
use Rattle.extent_groups.specs.Stores.{unit_of, AreDrives}
use Rattle.extent_groups.proofs.Missing.{gone_law}
use Rattle.unit_store.specs.declared.parts.Parts.{Parts}
use Rattle.unit_store.specs.Fit.{IsFit}
use Rattle.unit_store.specs.Losses.{LosesOnly}
use Rattle.unit_store.specs.Slots.{IsSlot, cells_in}
use Rattle.unit_store.specs.Views.{PartsView, Shows, drive_cells, drive_units, view_of}
use Rattle.unit_store.proofs.Calls.{shows_in}
use Rattle.unit_store.proofs.Reading.{slot_there}
use Rattle.unit_store.proofs.Shows.{shown_header}
use Rattle.unit_store.proofs.Views.{view_cells, view_drives}
use Rattle.flat_machine.specs.Flat.{Flat, Stored}
use Rattle.flat_machine.specs.Groups.{class_at}
use Rattle.flat_machine.specs.History.{IsHeaderOf}
use Rattle.flat_machine.specs.Restarted.{ReportMap}
use Rattle.flat_machine.specs.Scanned.{HasHeader}
use Rattle.flat_machine.proofs.Restarts.{reports_one}
use Rattle.slot_tables.specs.Adopted.{HasParts}
use Rattle.slot_tables.specs.Claims.{IsUnclaimed}
use Rattle.step_core.specs.Headline.{slot_bytes}
use Rattle.header_scan.specs.declared.fault.ScanFault.{ScanFault}
use Rattle.header_scan.specs.declared.fault.ScanFault.TheVariants.{Memory, BadHeader, WrongSlot, Twice, Gone, NoClaim, BadNote}
use Rattle.header_scan.specs.Faults.{SlotUnits, IsFirstFault}
use Rattle.header_scan.specs.Restarts.{AreAllSound, IsRestartFault}
use Rattle.header_scan.specs.Stops.{IsLeftFault}
use Rattle.header_scan.proofs.Renewing.{reports_in}
use Rattle.header_scan.proofs.Scanning.{has_unit, within, ranged, reported_header}
use Rattle.header_scan.proofs.Telling.{all_units, AllFine, NoneTwice, record_reported, slot_low}

module _ (v : PartsView) (groups : AreGroups v.groups) (drives : AreDrives drive_units v.groups v.drives) (units : ℕ → Option Stored) (shows : Shows v units) (keys : ℕ → ℕ) (map : ReportMap v.groups units keys) where
  -- a record in the header of a slot is of that slot and of one of the blocks, and the newest or of a lower stamp
  header_matches : (s : ℕ) (r : Record) → HasHeader (slot_bytes v) s r → IsHeaderOf keys s r × (r.block < v.groups.blocks)
  header_matches s r h =
      let u = shows.shown s h.0 h.1 in
      let header = ap record_in (shown_header h.0 u.0 h.2.0 u.2 h.2.1) ∙ h.2.2 in
      (map.header s u.0 r u.1 header, map.blocks s u.0 r u.1 header)

  -- no header is of a block past the last
  bad_matches : (s : ℕ) (bytes : List ℕ) → slot_bytes v s ≡ Some bytes
      → ((h : Header) → Spells (take 32 bytes) h → (r : Record) × (record_in h ≡ Some r) × (v.groups.blocks ≤ r.block)) → ⊥
  bad_matches s bytes e bad =
      let u = shows.shown s bytes e in
      let r = bad u.0.header u.2.0 in
      let inside = map.blocks s u.0 r.0 u.1 r.1 in
      let past = r.2 in
      omega (arith, inside, past)

  -- the newest record of a block is in a header, where all are fine
  newest_there : AllFine v → (b : ℕ) → 0 < keys b → HasHeader (all_units v) (record_of b (keys b)).place (record_of b (keys b))
  newest_there fine b some =
      let r = record_of b (keys b) in
      let is = (map.found b some).1 in
      let reports = record_reported v groups drives units shows map.there fine r.place is.stored r is.there is.header in
      let h = reported_header v.groups.blocks (slot_bytes v) r.place r reports in
      ranged 0 (2 ^ 16) (slot_bytes v) r.place r (omega arith)
      (slot_low v.groups r.place groups (has_unit v.groups (drive_cells v) r.place h.0 h.1)) h

  -- a header that no other of its block is newer than is the newest record
  top_newest : AllFine v → (b slot : ℕ) (r : Record) → HasHeader (all_units v) slot r → r.block ≡ b
      → ((s : ℕ) (x : Record) → HasHeader (all_units v) s x → x.block ≡ b → stamp_of x ≤ stamp_of r)
      → (key_of r ≡ keys b) × (r.place ≡ slot)
  top_newest fine b slot r h block most = (by matches.newest, matches.place)
    where
      matches : IsHeaderOf keys slot r
      matches = (header_matches slot r (within 0 (2 ^ 16) (slot_bytes v) slot r h).2).0

      by : (key_of r ≡ keys r.block) ⊎ (stamp_of r < stamp_in (keys r.block)) → key_of r ≡ keys b
      by (inl e) = e ∙ ap keys block
      by (inr less) =
          let key : keys r.block ≡ keys b = ap keys block in
          let top = most (record_of b (keys b)).place (record_of b (keys b)) (newest_there fine b (omega (arith, less, key))) refl in
          absurd (omega (arith, top, less, key))

  -- no block occurs twice
  never_twice : AllFine v → NoneTwice v
  never_twice fine b p q is =
      let one = top_newest fine b p is.one is.here.0 is.here.1 is.most in
      let other = top_newest fine b q is.other is.there.0 is.there.1
      (λ s x h block. let most = is.most s x h block in let same = is.same in omega (arith, most, same))
      in
      let key = one.0 in
      let also = other.0 in
      let place = one.1 in
      let place_too = other.1 in
      let same = is.same in
      let order = is.order in
      omega (arith, key, also, place, place_too, same, order)

  -- the first fault
  abbrev pub IsLeftOf : SlotUnits → ScanFault → Type 0
  IsLeftOf left Memory = Unit {0}
  IsLeftOf left (Gone s) = IsSlot v.groups s × (left s ≡ None)
  IsLeftOf left (BadHeader s) = ⊥
  IsLeftOf left (WrongSlot s reported) = ⊥
  IsLeftOf left (Twice block first second) = ⊥
  IsLeftOf left (NoClaim s) = ⊥
  IsLeftOf left (BadNote s) = ⊥

  pub first_fault : (left : SlotUnits) (fault : ScanFault) → IsFirstFault v.groups 0 (2 ^ 16) (slot_bytes v) left fault → IsLeftOf left fault
  first_fault left Memory is = tt
  first_fault left (Gone s) is = (subst (IsSlot v.groups) (sym is.4.0) is.1, ap left is.4.0 ∙ is.4.1)
  first_fault left (BadHeader s) is = bad_matches is.0 is.4.1.0 is.4.1.1 is.4.1.2
  first_fault left (WrongSlot s reported) is = let place = (header_matches is.0 is.4.2.0 is.4.2.1).0.place in is.4.1 (sym is.4.2.3 ∙ place)
  first_fault left (Twice block first second) is = never_twice is.0 block first second is.1
  first_fault left (NoClaim s) is = is
  first_fault left (BadNote s) is = is

-- of a restart over parts whose units hold a map
module _ {D C : Type 0} (units : D → List (List ℕ)) (lost : D → Bool) (failures : D → Failures) (mid left : Parts D) (names : C → ℕ) (claims : List C) (fit : IsFit units mid) (fit_left : IsFit units left)
    (loses : LosesOnly units lost failures mid left) (X : Flat) (has : HasParts (view_of units lost failures mid) X) (keys : ℕ → ℕ) (map : ReportMap X.groups X.units keys) where
  abbrev view : PartsView
  view = view_of units lost failures mid

  same : cells_in units lost mid ≡ drive_cells view
  same = sym (view_cells units lost failures mid)

  own : ReportMap mid.groups X.units keys
  own = subst (λ (t : Groups). ReportMap t X.units keys) has.groups map

  pub sound : AreAllSound units lost mid
  sound = (shows_in units lost failures mid X.units has.units).sound

  by_first : (fault : ScanFault) → IsFirstFault mid.groups 0 (2 ^ 16) (unit_of mid.groups (cells_in units lost mid)) (unit_of mid.groups (cells_in units lost left)) fault
      → IsLeftOf view fit.groups (view_drives units lost failures mid fit.drives) X.units has.units keys own (unit_of mid.groups (cells_in units lost left)) fault
  by_first fault is =
      first_fault view fit.groups (view_drives units lost failures mid fit.drives) X.units has.units keys own (unit_of mid.groups (cells_in units lost left)) fault
      (subst (λ (x : Cells). IsFirstFault mid.groups 0 (2 ^ 16) (unit_of mid.groups x) (unit_of mid.groups (cells_in units lost left)) fault) same is)

  pub left_fault : (fault : ScanFault) → IsRestartFault units lost mid left names claims fault → IsLeftFault lost left names claims keys fault
  left_fault Memory is = tt
  left_fault (Gone s) is =
      let by = by_first (Gone s) is in
      let none : unit_of left.groups (cells_in units lost left) s ≡ None = subst (λ t. unit_of t (cells_in units lost left) s ≡ None) (sym loses.tables.groups) by.1 in
      let site = slot_there left.groups s (subst (λ t. IsSlot t s) (sym loses.tables.groups) by.0) in
      (gone_law units lost left.groups left.drives.items s site.0 fit_left.groups fit_left.drives site.1).0 none
  left_fault (BadHeader s) is = absurd (by_first (BadHeader s) is)
  left_fault (WrongSlot s reported) is = absurd (by_first (WrongSlot s reported) is)
  left_fault (Twice block first second) is = absurd (by_first (Twice block first second) is)
  left_fault (BadNote s) is = absurd (by_first (BadNote s) is)
  left_fault (NoClaim s) is =
      let there : (s : ℕ) → is_some (X.units s) ≡ is_some (class_at mid.groups s) = own.there in
      let found = reports_in units lost failures mid left fit is.0 X.units has.units there is.1 in
      let one = reports_one mid.groups X.units is.0 keys found own in
      subst (λ k. IsUnclaimed names claims k s) (λ i b. one b i) is.2
