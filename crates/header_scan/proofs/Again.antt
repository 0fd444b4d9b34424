-- Parts that come back where no array was made of what a stop left: they are what a stop leaves, and their note was good.
use Rattle.std.proofs.Common.{◌≡◌, ℕ, zero, suc, ◌⊎◌, inl, inr, Bool, true, Option, Some, None, List, length, take, refl, sym, ◌∙◌, ap, subst, arith}
use Rattle.std.specs.Prelude.{slice_get}
use Rattle.std.proofs.lemmas.List.{take_all}
use Rattle.std.proofs.lemmas.Option.{none-some, same_Some}
use Rattle.extents.specs.Failures.{Failures}
use Rattle.extent_groups.specs.declared.place.Place.{Place}
use Rattle.extent_groups.specs.Calls.{FadesAt}
use Rattle.extent_groups.specs.Cells.{Cells, held}
use Rattle.extent_groups.specs.Groups.{Groups}
use Rattle.extent_groups.specs.Planned.{over, after, expected_in, expected_parity}
use Rattle.extent_groups.specs.Stores.{unit_bytes}
use Rattle.extent_groups.specs.Units.{Site, Pair, InStripe, site_of}
use Rattle.extent_groups.proofs.Fading.{fades_trans}
use Rattle.extent_groups.proofs.Losses.{kept_fades}
use Rattle.extent_groups.proofs.Missing.{missing_if}
use Rattle.extent_groups.proofs.Sites.{site_places}
use Rattle.flat_machine.specs.Flat.{Flat}
use Rattle.unit_store.specs.declared.micro.Micro.{Micro}
use Rattle.unit_store.specs.declared.note.Note.{Note}
use Rattle.unit_store.specs.declared.parts.Parts.{Parts}
use Rattle.unit_store.specs.Fit.{IsFit}
use Rattle.unit_store.specs.Losses.{LosesOnly}
use Rattle.unit_store.specs.Micros.{writes_in, note_after}
use Rattle.unit_store.specs.Notes.{note_view, AreFinished, IsBadNote, IsFineNote, IsGoodNote, IsParityFor, WasFinished}
use Rattle.unit_store.specs.Slots.{cells_in, missing_in}
use Rattle.unit_store.proofs.Reading.{slot_there}
use Rattle.header_scan.specs.Stops.{IsLeftByStop, IsMicro, IsNotedList, finished_count}
use Rattle.header_scan.proofs.Settling.{begun_fades, faded_none, front_note, settles, still_none, unbegun, whole_note, whole_writes}

-- a note is good or bad, not both
pub not_both : (groups : Groups) (missing : ℕ → Bool) (o : Option Note) → IsFineNote groups missing o → IsBadNote groups missing o → ⊥
not_both groups missing None fine bad = bad
not_both groups missing (Some n) fine bad = bad fine

-- finishing leaves as many drives
pub many_finished : {D : Type 0} (units : D → List (List ℕ)) (lost : D → Bool) (failures : D → Failures) (o : Option Note) (q mid : Parts D) → AreFinished units lost failures o q mid
    → length mid.drives.items ≡ length q.drives.items
many_finished units lost failures None q mid same = ap (λ (m : Parts _). length m.drives.items) same
many_finished units lost failures (Some n) q mid done = done.1.many

module _ {D : Type 0} (units : D → List (List ℕ)) (lost : D → Bool) (failures : D → Failures) (p q mid left : Parts D) (F G : Flat) (list : List Micro)
    (micro : IsMicro units lost p F G list) (done : WasFinished units lost failures q mid) (loses : LosesOnly units lost failures mid left) where
  abbrev c : Cells
  c = cells_in units lost p

  abbrev l : IsNotedList micro.note micro.writes list
  l = micro.listed

  whole : take (length list) list ≡ list
  whole = take_all (length list) list (omega arith)

  all_note : note_after p.note (take (length list) list) ≡ None
  all_note = ap (note_after p.note) (whole ∙ l.is) ∙ whole_note micro.note l.puts l.only

  all_writes : writes_in (take (length list) list) ≡ micro.writes
  all_writes = ap writes_in (whole ∙ l.is) ∙ whole_writes l.puts l.only ∙ l.writes_are

  cleared : left.note ≡ None
  cleared = loses.tables.note ∙ done.cleared

  -- what the drives hold in the end
  ends : (n : ℕ) → IsLeftByStop units lost p q list n → (x : Place) → FadesAt (after c (writes_in (take (finished_count n list) list))) (cells_in units lost left) x
  ends zero stop x =
      fades_trans _ _ _ (begun_fades units lost failures p q mid F G list micro done stop x)
      (subst (λ (m : Parts D). FadesAt (cells_in units lost m) (cells_in units lost left) x) (unbegun units lost failures p q mid F G list micro done stop) (kept_fades loses.drives x))
  ends (suc k) stop x =
      subst (λ ws. FadesAt (after c ws) (cells_in units lost left) x) (sym all_writes)
      (fades_trans _ _ _ (settles units lost failures p q mid F G list micro done k stop x) (kept_fades loses.drives x))

  note_is : (n : ℕ) → note_after p.note (take (finished_count n list) list) ≡ None
  note_is zero = micro.none
  note_is (suc k) = all_note

  pub left_again : (n : ℕ) → IsLeftByStop units lost p q list n → IsLeftByStop units lost p left list (finished_count n list)
  left_again n stop = record {
    note = cleared ∙ sym (note_is n);
    groups = record {
      shape = loses.tables.shape ∙ done.shape ∙ stop.groups.shape;
      groups = loses.tables.groups ∙ done.groups ∙ stop.groups.groups;
      extents = loses.tables.extents ∙ done.extents ∙ stop.groups.extents;
    };
    many = loses.drives.many ∙ many_finished units lost failures q.note q mid done.finished ∙ stop.many;
    none = λ x none. faded_none _ _ (ends n stop x) (still_none c (writes_in (take (finished_count n list) list)) x none);
    cells = λ x never. ends n stop x;
  }

module _ {D : Type 0} (units : D → List (List ℕ)) (lost : D → Bool) (p q : Parts D) (F G : Flat) (list : List Micro) (fit : IsFit units q) (micro : IsMicro units lost p F G list) (n : ℕ) (stop : IsLeftByStop units lost p q list n) where
  abbrev groups_are : q.groups ≡ p.groups
  groups_are = stop.groups.groups

  abbrev was : Cells
  was = cells_in units lost p

  -- a place of the slot's row that held nothing is of a lost drive
  row_lost : (row : List Place) (parity i : ℕ) → site_of p.groups micro.note.slot ≡ Some (InStripe row parity i) → (x : Place) → slice_get row parity ≡ Some x → held was x ≡ None
      → missing_in lost q x.drive ≡ true
  row_lost row parity i at x is none =
      missing_if units lost q.drives.items x
      (site_places units q.groups q.drives.items micro.note.slot (InStripe row parity i) fit.groups fit.drives (ap (λ t. site_of t micro.note.slot) groups_are ∙ at) x (parity, is))
      (stop.none x none)

  parity_as : (row : List Place) (parity i : ℕ) → site_of p.groups micro.note.slot ≡ Some (InStripe row parity i) → (o : Option Place) → slice_get row parity ≡ o
      → IsParityFor (unit_bytes p.groups) (missing_in lost q) (Some (InStripe row parity i)) (expected_in was micro.expected o)
  parity_as row parity i at None e = λ x is. absurd (none-some x (sym e ∙ is))
  parity_as row parity i at (Some y) e = by (held was y) refl
    where
      by : (u : Option (List ℕ)) → held was y ≡ u → IsParityFor (unit_bytes p.groups) (missing_in lost q) (Some (InStripe row parity i)) (over u (micro.expected y))
      by None none = λ x is.
          let same : y ≡ x = same_Some y x (sym e ∙ is) in
          subst (λ (z : Place). missing_in lost q z.drive ≡ true) same (row_lost row parity i at y e none)
      by (Some u) there = micro.plan.sized y

  parity_fine : (site : Option Site) → site_of p.groups micro.note.slot ≡ site → IsParityFor (unit_bytes p.groups) (missing_in lost q) site (expected_parity was micro.expected site)
  parity_fine None e = absurd (let there = slot_there p.groups micro.note.slot micro.slot in none-some there.0 (sym e ∙ there.1))
  parity_fine (Some (Pair a b)) e = tt
  parity_fine (Some (InStripe row parity i)) e = parity_as row parity i e (slice_get row parity) refl

  good : IsGoodNote p.groups (missing_in lost q) (note_view micro.note)
  good = record {
    slot = micro.slot;
    unit = micro.long;
    parity = subst (IsParityFor (unit_bytes p.groups) (missing_in lost q) (site_of p.groups micro.note.slot)) (sym micro.parity) (parity_fine (site_of p.groups micro.note.slot) refl);
  }

  note_by : (n : ℕ) → q.note ≡ note_after p.note (take n list) → (q.note ≡ Some micro.note) ⊎ (q.note ≡ None)
  note_by zero is = inr (is ∙ micro.none)
  note_by (suc k) is =
      let l = micro.listed in
      let note = is ∙ ap (λ ms. note_after p.note (take (suc k) ms)) l.is in
      elim (front_note micro.note l.puts k l.only) [ inl set ↦ inl (note ∙ set) | inr clear ↦ inr (note ∙ clear) ]

  -- the note of what a stop left is good
  pub fine_left : IsFineNote q.groups (missing_in lost q) q.note
  fine_left = elim (note_by n stop.note) [
    | inl set ↦ subst (IsFineNote q.groups (missing_in lost q)) (sym set) (subst (λ t. IsGoodNote t (missing_in lost q) (note_view micro.note)) (sym groups_are) good)
    | inr none ↦ subst (IsFineNote q.groups (missing_in lost q)) (sym none) tt
  ]
