-- The parts after a stop, and the restarted array.
use Rattle.std.proofs.Common.{◌≡◌, ℕ, zero, suc, inl, Bool, None, List, take, ap, sym, ◌∙◌, subst}
use Rattle.extents.specs.Failures.{Failures}
use Rattle.extent_groups.specs.declared.place.Place.{Place}
use Rattle.extent_groups.specs.Calls.{FadesAt, KeepsDrives}
use Rattle.extent_groups.specs.Planned.{after}
use Rattle.extent_groups.specs.Groups.{AreGroups}
use Rattle.flat_machine.specs.Flat.{Flat}
use Rattle.flat_machine.proofs.Restarts.{history_reports}
use Rattle.unit_store.specs.declared.micro.Micro.{Micro}
use Rattle.unit_store.specs.declared.parts.Parts.{Parts}
use Rattle.unit_store.specs.Fit.{IsFit}
use Rattle.unit_store.specs.Micros.{IsWritten, KeepsGroups, writes_in, note_after}
use Rattle.unit_store.specs.Slots.{cells_in}
use Rattle.unit_store.specs.Views.{PartsView, view_of}
use Rattle.disk_array.specs.Refused.{OnlyLoses}
use Rattle.slot_tables.specs.Adopted.{HasParts}
use Rattle.slot_tables.specs.Represents.{ShowsArray}
use Rattle.slot_tables.specs.Claims.{AreClaimsOf, IsUnclaimed}
use Rattle.slot_tables.specs.Views.{ArrayView, key_at}
use Rattle.header_scan.specs.Restarts.{HasUnits}
use Rattle.header_scan.specs.declared.fault.ScanFault.{ScanFault}
use Rattle.header_scan.specs.declared.fault.ScanFault.TheVariants.{Memory, BadHeader, WrongSlot, Twice, Gone, NoClaim, BadNote}
use Rattle.header_scan.specs.Stops.{IsButLost, IsLeftAgain, IsLeftFault, IsResumed, IsStopped, IsWhyLeft, standing}
use Rattle.flat_machine.specs.Restarted.{IsRestarted}
use Rattle.header_scan.proofs.Settling.{left_stopped}
use Rattle.crash_points.specs.declared.intent.Intent.{Intent}
use Rattle.crash_points.specs.Intents.{IsValidIntent, IsTaken, slot_of, step_of}
use Rattle.crash_points.specs.Lists.{IsStepList}
use Rattle.crash_points.specs.Stops.{IsCutShort, IsFailure, IsResumable, WasStopped}
use Rattle.crash_points.proofs.Claimed.{came_from, history_after, none_missing}

-- the parts of an array are those of a state that it shows, each of whose slots has a unit
has_parts : (a : ArrayView) (F : Flat) → ShowsArray a F → HasParts a.parts F
has_parts a F shows = record {
  groups = shows.tables.groups;
  drives = shows.tables.drives;
  lost = shows.tables.lost;
  failures = shows.tables.failures;
  units = shows.units;
}

has_units : (a : ArrayView) (F : Flat) → ShowsArray a F → HasUnits F
has_units a F shows s = (shows.history.units s).there

-- a list that was carried out in part
pub stopped : {D : Type 0} (units : D → List (List ℕ)) (lost : D → Bool) (failures : D → Failures) (p q : Parts D) (list : List Micro) (n : ℕ) → q.note ≡ note_after p.note (take n list)
    → ((x : Place) → FadesAt (after (cells_in units lost p) (writes_in (take n list))) (cells_in units lost q) x) → KeepsDrives units lost failures (IsWritten (take n list)) p.drives.items q.drives.items → KeepsGroups p q
    → IsStopped units lost p q list n
stopped units lost failures p q list n note cells touched groups = record { note = note; groups = groups; many = touched.many; cells = cells }

-- what a restart makes of it
pub cut_short : {D : Type 0} (units : D → List (List ℕ)) (lost : D → Bool) (failures : D → Failures) (b made : ArrayView) (p q : Parts D) (list : List Micro) (n : ℕ) (F : Flat) (w : ℕ) (intent : Intent)
    → IsStepList units lost failures b F (slot_of intent) (step_of w intent) (IsTaken intent) list → view_of units lost failures p ≡ b.parts → p.note ≡ None → IsFit units p → IsStopped units lost p q list n → IsResumed units lost failures q made
    → IsCutShort F w intent n made
cut_short units lost failures b made p q list n F w intent l seen none fit stop resumed = go (resumed p l.before l.after list n fit has (has_units b l.before l.shows) (l.micro p seen none) (left_stopped units lost p q list n stop))
  where
    has : HasParts (view_of units lost failures p) l.before
    has = subst (λ (v : PartsView). HasParts v l.before) (sym seen) (has_parts b l.before l.shows)

    go : (X : Flat) × (keys : ℕ → ℕ) × (K : Flat) × IsButLost (standing n l.before l.after) X × IsRestarted X keys K × ShowsArray made K → IsCutShort F w intent n made
    go r = record {
      before = l.before;
      after = l.after;
      answer = l.answer;
      leaves = l.leaves;
      took = l.took;
      case = l.case;
      found = r.0;
      keys = r.1;
      now = r.2;
      matches = r.3;
      restarted = r.4;
      shows = r.5;
    }

-- what a planned step left that was stopped
pub was_stopped : {D : Type 0} (units : D → List (List ℕ)) (lost : D → Bool) (failures : D → Failures) (a b : ArrayView) (p q : Parts D) (list : List Micro) (n : ℕ) (F : Flat) (w : ℕ) (intent : Intent) → OnlyLoses a b
    → IsStepList units lost failures b F (slot_of intent) (step_of w intent) (IsTaken intent) list → view_of units lost failures p ≡ b.parts → p.note ≡ None → q.note ≡ note_after p.note (take n list)
    → ((x : Place) → FadesAt (after (cells_in units lost p) (writes_in (take n list))) (cells_in units lost q) x) → KeepsDrives units lost failures (IsWritten (take n list)) p.drives.items q.drives.items → KeepsGroups p q
    → WasStopped units lost failures a F w intent n q
was_stopped units lost failures a b p q list n F w intent loses steps seen none note cells touched groups = record {
  planned = b;
  list = list;
  begun = p;
  loses = loses;
  steps = steps;
  parts_are = seen;
  no_note = none;
  stopped = stopped units lost failures p q list n note cells touched groups;
  touched = touched;
}

-- parts that came back from a restart after it
pub resumable : {D : Type 0} (units : D → List (List ℕ)) (lost : D → Bool) (failures : D → Failures) (a b : ArrayView) (p q left : Parts D) (list : List Micro) (n : ℕ) (F : Flat) (w : ℕ) (intent : Intent) → OnlyLoses a b
    → IsStepList units lost failures b F (slot_of intent) (step_of w intent) (IsTaken intent) list → view_of units lost failures p ≡ b.parts → p.note ≡ None → IsFit units p → IsStopped units lost p q list n
    → IsLeftAgain units lost q left → IsResumable units lost failures a F w intent n left
resumable units lost failures a b p q left list n F w intent loses steps seen none fit stop again = record {
  planned = b;
  list = list;
  begun = p;
  loses = loses;
  steps = steps;
  parts_are = seen;
  no_note = none;
  fit = fit;
  left = again p steps.before steps.after list n fit (steps.micro p seen none) (left_stopped units lost p q list n stop);
}

-- and its fault: no claim is missing
not_missing : {D C : Type 0} (lost : D → Bool) (left : Parts D) (names : C → ℕ) (claims : List C) (keys : ℕ → ℕ) (fault : ScanFault) → ((s : ℕ) → IsUnclaimed names claims keys s → ⊥)
    → IsLeftFault lost left names claims keys fault → IsFailure lost left fault
not_missing lost left names claims keys Memory never is = tt
not_missing lost left names claims keys (Gone s) never is = is
not_missing lost left names claims keys (NoClaim s) never is = absurd (never s is)
not_missing lost left names claims keys (BadHeader s) never is = is
not_missing lost left names claims keys (WrongSlot s reported) never is = is
not_missing lost left names claims keys (Twice block first second) never is = is
not_missing lost left names claims keys (BadNote s) never is = is

pub failed : {D C : Type 0} (units : D → List (List ℕ)) (lost : D → Bool) (failures : D → Failures) (a b : ArrayView) (p q left : Parts D) (list : List Micro) (n : ℕ) (F : Flat) (w : ℕ) (intent : Intent)
    (names : C → ℕ) (claims : List C) (fault : ScanFault) → ShowsArray a F
    → IsStepList units lost failures b F (slot_of intent) (step_of w intent) (IsTaken intent) list → view_of units lost failures p ≡ b.parts → p.note ≡ None → IsFit units p → IsStopped units lost p q list n
    → AreClaimsOf names a claims → AreClaimsOf names b claims → IsValidIntent a.parts.groups intent → IsWhyLeft units lost failures q left names claims fault → IsFailure lost left fault
failed units lost failures a b p q left list n F w intent names claims fault shows steps seen none fit stop are also asked why = by n stop
  where
    has : HasParts (view_of units lost failures p) steps.before
    has = subst (λ (v : PartsView). HasParts v steps.before) (sym seen) (has_parts b steps.before steps.shows)

    same : F.groups ≡ p.groups
    same = sym (ap (λ (x : Flat). x.groups) steps.leaves.same) ∙ steps.shows.tables.groups ∙ sym (ap (λ (v : PartsView). v.groups) seen)

    by : (n : ℕ) → IsStopped units lost p q list n → IsFailure lost left fault
    by zero stop =
        not_missing lost left names claims (key_at b) fault
        (λ s. none_missing names claims b steps.before steps.before (key_at b) s steps.shows (λ t c e. inl e) steps.shows.history also)
        (why p steps.before steps.after list zero (key_at b) fit has (has_units b steps.before steps.shows) (steps.micro p seen none) (left_stopped units lost p q list zero stop)
        (history_reports steps.before (key_at b) steps.shows.history))
    by (suc k) stop =
        let after = history_after F steps.after w intent steps.answer (key_at a) (subst AreGroups (sym same) fit.groups) (subst (λ t. IsValidIntent t intent) (sym shows.tables.groups) asked) shows.history steps.took steps.case in
        not_missing lost left names claims after.0 fault
        (λ s. none_missing names claims a F steps.after after.0 s shows (came_from F steps.after w intent steps.answer steps.took steps.case) after.1 are)
        (why p steps.before steps.after list (suc k) after.0 fit has (has_units b steps.before steps.shows) (steps.micro p seen none) (left_stopped units lost p q list (suc k) stop)
        (history_reports steps.after after.0 after.1))
