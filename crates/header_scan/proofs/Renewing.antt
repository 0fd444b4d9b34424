-- An array that is rebuilt from what a scan left of parts represents the restarted state.
use Rattle.std.proofs.Common.{◌≡◌, ℕ, ◌^◌, Bool, false, List, [], length, is_some, refl, sym, ap, ◌∙◌, subst, Option, None}
use Rattle.extents.specs.Failures.{Failures}
use Rattle.map_join.specs.Maps.{IsListOf}
use Rattle.extent_groups.specs.Cells.{Cells}
use Rattle.extent_groups.specs.Stores.{unit_of, AreSound}
use Rattle.unit_store.specs.declared.parts.Parts.{Parts}
use Rattle.unit_store.specs.Fit.{IsFit}
use Rattle.unit_store.specs.Losses.{LosesOnly}
use Rattle.unit_store.specs.Slots.{cells_in}
use Rattle.unit_store.specs.Views.{PartsView, Loses, view_of, drive_cells, lost_of, failed_of, Shows}
use Rattle.unit_store.proofs.Reading.{keeps_fare}
use Rattle.unit_store.proofs.Views.{view_cells, view_drives}
use Rattle.unit_store.proofs.Calls.{loses_view, shows_in}
use Rattle.flat_machine.specs.Cases.{Leaves}
use Rattle.flat_machine.specs.Flat.{Flat, Stored}
use Rattle.flat_machine.specs.Groups.{class_at}
use Rattle.flat_machine.specs.Restarted.{IsRestarted, ReportMap, restarted}
use Rattle.flat_machine.specs.Scanned.{IsScanned}
use Rattle.slot_tables.specs.Adopted.{HasParts}
use Rattle.slot_tables.specs.Represents.{ShowsArray}
use Rattle.slot_tables.specs.Views.{ArrayView}
use Rattle.step_core.specs.Claims.{IsWorkerFree}
use Rattle.header_scan.specs.Faults.{between, AreFine, IsTwice}
use Rattle.header_scan.specs.Found.{Keeps}
use Rattle.header_scan.specs.Restarts.{AreAllSound, HasUnits, RepresentsOne, ReportAll}
use Rattle.header_scan.proofs.Telling.{scan_reports, scan_units}

-- a state whose parts were read: some of its drives may have been lost
abbrev fared : Flat → PartsView → Flat
fared F v = record F { lost = lost_of v; failures = failed_of v }

module _ {D : Type 0} (units : D → List (List ℕ)) (lost : D → Bool) (failures : D → Failures) (p q : Parts D) (fit : IsFit units p) where
  abbrev v : PartsView
  v = view_of units lost failures p

  abbrev w : PartsView
  w = view_of units lost failures q

  -- what the headers hold, over the parts as plain data
  pub reports_in : (M : ℕ → ℕ) (units_of : ℕ → Option Stored) → Shows v units_of → ((s : ℕ) → is_some (units_of s) ≡ is_some (class_at p.groups s)) → ReportAll units lost p M
      → ReportMap p.groups units_of M
  reports_in M units_of shows there reports =
      scan_reports v fit.groups (view_drives units lost failures p fit.drives) units_of shows there
      (subst (λ (c : Cells). AreFine p.groups 0 (2 ^ 16) (unit_of p.groups c)) same reports.fine) M
      (subst (λ (c : Cells). IsScanned (between 0 (2 ^ 16) (unit_of p.groups c)) M) same reports.scanned)
      (subst (λ (c : Cells). (b one other : ℕ) → IsTwice (between 0 (2 ^ 16) (unit_of p.groups c)) b one other → ⊥) same reports.once)
    where
      same : cells_in units lost p ≡ drive_cells v
      same = sym (view_cells units lost failures p)

  -- reads left all but which drives are lost
  loses_in : LosesOnly units lost failures p q → Keeps p.groups (cells_in units lost p) (cells_in units lost q) → Loses v w
  loses_in loses keeps = loses_view units lost failures p q loses.tables (keeps_fare p.drives.items q.drives.items loses.drives)
      (λ sound. (keeps sound).0) (λ sound. subst (λ t. AreSound t (cells_in units lost q)) (sym loses.tables.groups) (keeps sound).1)

  -- so they are the parts of the same state, but for these
  has_left : (F : Flat) → Loses v w → HasParts v F → HasParts w (fared F w)
  has_left F loses has = record {
    groups = has.groups ∙ sym loses.rest.groups;
    drives = has.drives ∙ sym loses.fares.many;
    lost = refl;
    failures = refl;
    units = loses.shows F.units has.units;
  }

  leaves_left : (F : Flat) → Loses v w → HasParts v F → Leaves F (fared F w)
  leaves_left F loses has = record {
    same = refl;
    drives = λ d. rw (has.lost, has.failures) (loses.fares.each d);
  }

  module _ (M : ℕ → ℕ) (a : ArrayView) (loses : LosesOnly units lost failures p q) (keeps : Keeps p.groups (cells_in units lost p) (cells_in units lost q))
      (reports : AreAllSound units lost p → ReportAll units lost p M) (list : IsListOf M a.log)
      (shows : (G : Flat) → HasParts w G → ReportMap G.groups G.units M → ShowsArray a (restarted G M a.log)) where
    -- the array represents the restarted state for each state of the parts
    pub made_shows : (F : Flat) → HasParts v F → HasUnits F → (G : Flat) × (H : Flat) × Leaves F G × IsRestarted G M H × ShowsArray a H
    made_shows F has there =
        let sound : AreAllSound units lost p = (shows_in units lost failures p F.units has.units).sound in
        let lose = loses_in loses keeps in
        let report : ReportMap F.groups F.units M = rw (has.groups) (reports_in M F.units has.units (λ s. there s ∙ ap (λ g. is_some (class_at g s)) has.groups) (reports sound)) in
        (fared F w, restarted (fared F w) M a.log, leaves_left F lose has, record { log = list; is = refl }, shows (fared F w) (has_left F lose has) report)

    -- and there is one
    pub made_matches : AreAllSound units lost p → RepresentsOne units lost failures p a
    made_matches sound =
        let reported = reports sound in
        let found = scan_units v fit.groups (subst (λ (c : Cells). AreFine p.groups 0 (2 ^ 16) (unit_of p.groups c)) same reported.fine) (subst (AreSound p.groups) same sound) in
        let F : Flat = bare found.0 in
        let has : HasParts v F = record { groups = refl; drives = refl; lost = refl; failures = refl; units = found.1 } in
        let made = made_shows F has found.2 in
        record { before = F; has = has; there = found.2; after = made.1; shows = made.4; idle = subst IsWorkerFree (sym made.3.is) (λ s u. (refl, refl)) }
      where
        same : cells_in units lost p ≡ drive_cells v
        same = sym (view_cells units lost failures p)

        bare : (ℕ → Option Stored) → Flat
        bare units_of = record {
          groups = p.groups;
          drives = length v.drives;
          lost = lost_of v;
          failures = failed_of v;
          writes = [];
          emitted = [];
          held = λ s k. false;
          tickets = λ s. None;
          units = units_of;
        }
