-- A stop after any number of a step's single writes: once the note is finished the drives show the state of before or of after.
use Rattle.std.proofs.Common.{◌≡◌, ◌≢◌, ℕ, zero, suc, inl, inr, Bool, true, if◌then◌else◌, is_some, Option, Some, None, List, length, refl, sym, ◌∙◌, ap, subst}
use Rattle.std.proofs.lemmas.Bool.{ne_eqb, eq-eqb}
use Rattle.extents.specs.Failures.{Failures}
use Rattle.extent_groups.specs.declared.place.Place.{Place}
use Rattle.extent_groups.specs.Calls.{FadesAt}
use Rattle.extent_groups.specs.Cells.{Cells}
use Rattle.extent_groups.specs.Planned.{after}
use Rattle.extent_groups.specs.Stores.{unit_bytes, WroteSlot}
use Rattle.extent_groups.proofs.Finishing.{after_sized}
use Rattle.extent_groups.proofs.LayoutLaw.{layout_law}
use Rattle.extent_groups.proofs.SlotWrites.{slots_fade}
use Rattle.extent_groups.proofs.Places.{same_or_not}
use Rattle.extent_groups.proofs.StoreCalls.{sized_cells}
use Rattle.flat_machine.specs.Flat.{Flat, Stored, put}
use Rattle.flat_machine.specs.Groups.{class_at}
use Rattle.unit_store.specs.declared.micro.Micro.{Micro}
use Rattle.unit_store.specs.declared.parts.Parts.{Parts}
use Rattle.unit_store.specs.Fit.{IsFit}
use Rattle.unit_store.specs.Notes.{WasFinished}
use Rattle.unit_store.specs.Shows.{ShowsUnits}
use Rattle.unit_store.specs.Slots.{cells_in}
use Rattle.unit_store.specs.Views.{view_of, drive_cells, lost_of, failed_of}
use Rattle.unit_store.proofs.Calls.{shows_in}
use Rattle.unit_store.proofs.Shows.{shows_wrote}
use Rattle.unit_store.proofs.Stopped.{shows_unbegun}
use Rattle.unit_store.proofs.Views.{view_cells, view_length}
use Rattle.slot_tables.specs.Adopted.{HasParts}
use Rattle.header_scan.specs.Restarts.{HasUnits}
use Rattle.header_scan.specs.Stops.{IsLeftByStop, IsMicro, standing}
use Rattle.header_scan.proofs.Placing.{classed}
use Rattle.header_scan.proofs.Settling.{begun_fades, settles, unbegun}

some_is : {X : Type 0} (o : Option X) → o ≢ None → is_some o ≡ true
some_is None some = absurd (some refl)
some_is (Some x) some = refl

-- a unit put at a slot that had one leaves which slots have a unit
there_put : (f : ℕ → Option Stored) (slot : ℕ) (u : Stored) (has : ℕ → Bool) → ((s : ℕ) → is_some (f s) ≡ has s) → has slot ≡ true
    → (s : ℕ) → is_some (put f slot (Some u) s) ≡ has s
there_put f slot u has there here s = elim (same_or_not s slot) [
  | inl same ↦ ap (λ b. is_some (if b then Some u else f s)) (eq-eqb s slot same) ∙ sym here ∙ ap has (sym same)
  | inr apart ↦ ap (λ b. is_some (if b then Some u else f s)) (ne_eqb s slot apart) ∙ there s
]

module _ {D : Type 0} (units : D → List (List ℕ)) (lost : D → Bool) (failures : D → Failures) (p q mid : Parts D) (F G : Flat) (list : List Micro)
    (fit : IsFit units p) (has : HasParts (view_of units lost failures p) F) (there : HasUnits F) (micro : IsMicro units lost p F G list) (done : WasFinished units lost failures q mid) where
  abbrev c : Cells
  c = cells_in units lost p

  abbrev e : Cells
  e = cells_in units lost mid

  shown : ShowsUnits p.groups c F.units
  shown = shows_in units lost failures p F.units has.units

  -- so they show the state that stands
  shows_made : ((x : Place) → FadesAt (after c micro.writes) e x) → ShowsUnits p.groups e (put F.units micro.note.slot (Some micro.unit))
  shows_made fades =
      let planned = micro.plan.planned in
      let sized = after_sized p.groups c micro.note.slot micro.note.unit.items micro.expected micro.writes (unit_bytes p.groups) planned micro.plan.sized (sized_cells units lost p.groups p.drives.items fit.drives) in
      let kept = slots_fade p.groups (after c micro.writes) e (layout_law p.groups fit.groups) sized (planned.wrote.sound shown.sound) fades in
      let wrote : WroteSlot p.groups c e micro.note.slot micro.note.unit.items = record {
        unit = λ v holds. planned.wrote.unit v (kept.0 micro.note.slot v holds);
        others = λ sound other v ne holds. planned.wrote.others sound other v ne (kept.0 other v holds);
        sound = λ sound. kept.1;
      } in
      shows_wrote p.groups c e F.units micro.note.slot micro.note.unit.items micro.unit shown wrote micro.is

  shows_standing : (n : ℕ) → IsLeftByStop units lost p q list n → ShowsUnits p.groups e (standing n F G).units
  shows_standing zero stop =
      subst (λ (m : Parts D). ShowsUnits p.groups (cells_in units lost m) F.units) (sym (unbegun units lost failures p q mid F G list micro done stop))
      (shows_unbegun p.groups c (cells_in units lost q) F.units (layout_law p.groups fit.groups) (sized_cells units lost p.groups p.drives.items fit.drives) shown (begun_fades units lost failures p q mid F G list micro done stop))
  shows_standing (suc k) stop = subst (λ f. ShowsUnits p.groups e f) (sym micro.units_are) (shows_made (settles units lost failures p q mid F G list micro done k stop))

  -- the state that holds then, with the drives as they are
  abbrev pub found : ℕ → Flat
  found n = record (standing n F G) { drives = length mid.drives.items; lost = lost_of (view_of units lost failures mid); failures = failed_of (view_of units lost failures mid) }

  groups_found : (n : ℕ) → (standing n F G).groups ≡ p.groups
  groups_found zero = has.groups
  groups_found (suc n) = micro.groups ∙ has.groups

  pub has_found : (n : ℕ) → IsLeftByStop units lost p q list n → HasParts (view_of units lost failures mid) (found n)
  has_found n stop =
      let same : mid.groups ≡ p.groups = done.groups ∙ stop.groups.groups in record {
        groups = groups_found n ∙ sym same;
        drives = sym (view_length units lost failures mid);
        lost = refl;
        failures = refl;
        units = subst (λ t. ShowsUnits t (drive_cells (view_of units lost failures mid)) (standing n F G).units) (sym same)
            (subst (λ (x : Cells). ShowsUnits p.groups x (standing n F G).units) (sym (view_cells units lost failures mid)) (shows_standing n stop));
      }

  pub there_found : (n : ℕ) → HasUnits (found n)
  there_found zero = there
  there_found (suc n) = λ s.
      subst (λ (f : ℕ → Option Stored). is_some (f s) ≡ is_some (class_at G.groups s)) (sym micro.units_are)
      (subst (λ t. is_some (put F.units micro.note.slot (Some micro.unit) s) ≡ is_some (class_at t s)) (sym micro.groups)
      (there_put F.units micro.note.slot micro.unit (λ k. is_some (class_at F.groups k)) there
      (some_is (class_at F.groups micro.note.slot) (subst (λ t. class_at t micro.note.slot ≢ None) (sym has.groups) (classed p.groups micro.note.slot micro.slot))) s))
