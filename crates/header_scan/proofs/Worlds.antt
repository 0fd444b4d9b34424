-- A scan of an array or a world that represents a flat state: the map of its log where no slot is gone, else the first that
-- is.
use Rattle.std.proofs.Common.{◌≡◌, ℕ, ◌^◌, ◌<◌, None, sym, ◌∙◌, ap, subst, arith}
use Rattle.std.specs.Prelude.{is_some, Result, Ok, Err, IfOk, IfErr, OnOk}
use Rattle.std.proofs.lemmas.Option.{none-some}
use Rattle.map_join.specs.Maps.{Entries, at, IsMapOf}
use Rattle.extent_groups.specs.Groups.{Groups}
use Rattle.extent_groups.specs.Stores.{unit_of, AreSound}
use Rattle.extent_groups.proofs.Missing.{gone_law}
use Rattle.unit_store.specs.Slots.{IsSlot}
use Rattle.unit_store.specs.Views.{IsLost, drive_cells, drive_units, drive_lost}
use Rattle.unit_store.proofs.Reading.{slot_there}
use Rattle.flat_machine.specs.Flat.{Flat}
use Rattle.flat_machine.specs.Groups.{class_at}
use Rattle.flat_machine.specs.Cases.{IsGoneIn}
use Rattle.flat_machine.specs.Restarted.{ReportMap}
use Rattle.flat_machine.specs.Scanned.{IsScanned}
use Rattle.flat_machine.specs.Scans.{Reported, FindsGone, ScanCase}
use Rattle.flat_machine.proofs.Restarts.{history_reports, reports_one}
use Rattle.slot_tables.specs.Views.{ArrayView, WorldView, IsWhole, hand_at, key_at}
use Rattle.slot_tables.specs.Represents.{ShowsArray, HandSlot, Represents}
use Rattle.slot_tables.proofs.Fares.{fared, gone_as, gone_before, lost_shows, lost_leaves}
use Rattle.slot_tables.proofs.Fills.{class_seen}
use Rattle.step_core.specs.Headline.{slot_bytes}
use Rattle.step_core.specs.Refused.{OnlyLoses, OnlyLosesOf}
use Rattle.header_scan.specs.declared.fault.ScanFault.{ScanFault}
use Rattle.header_scan.specs.declared.fault.ScanFault.TheVariants.{Memory, BadHeader, WrongSlot, Twice, Gone, NoClaim, BadNote}
use Rattle.header_scan.specs.Faults.{AreFine, IsFirstFault}
use Rattle.header_scan.specs.Worlds.{IsReportedOf}
use Rattle.header_scan.proofs.Known.{first_fault, IsLeftOf}
use Rattle.header_scan.proofs.Scanning.{slot_at}
use Rattle.header_scan.proofs.Telling.{all_units, AllFine, NoneTwice, slot_low, scan_reports}

module _ (a : ArrayView) (F : Flat) (whole : IsWhole a) (shows : ShowsArray a F) where
  -- a slot has a unit exactly where it is of a group
  there : (s : ℕ) → is_some (F.units s) ≡ is_some (class_at a.parts.groups s)
  there s = (shows.history.units s).there ∙ ap is_some (class_seen a F s shows)

  -- the state's units hold its map
  own_map : ReportMap a.parts.groups F.units (key_at a)
  own_map = subst (λ (groups : Groups). ReportMap groups F.units (key_at a)) shows.tables.groups (history_reports F (key_at a) shows.history)

  -- the map of the headers is that of the log
  pub scan_history : (M : ℕ → ℕ) → AllFine a.parts → IsScanned (all_units a.parts) M → NoneTwice a.parts → IsMapOf F.emitted M
  scan_history M fine map once =
      let reports = scan_reports a.parts whole.groups.table whole.drives F.units shows.units there fine M map once in
      let same = reports_one a.parts.groups F.units (key_at a) M own_map reports in
      subst (IsMapOf F.emitted) (λ i b. same b i) shows.history.map

  -- a slot that is fine isn't gone
  fine_stays : (high s : ℕ) → AreFine a.parts.groups 0 high (slot_bytes a.parts) → s < high → IsGoneIn F s → ⊥
  fine_stays high s fine below gone =
      let lost = gone_before F a.parts s shows.tables.groups shows.tables.lost gone in
      let none = (gone_law drive_units drive_lost a.parts.groups a.parts.drives s lost.0 whole.groups.table whole.drives lost.1).1 lost in
      let reported = (fine s (slot_at a.parts.groups s lost.0 lost.1) (omega arith) below).1 in
      none-some reported.0 (sym none ∙ reported.1)

  -- so none is where all are
  pub none_gone : AllFine a.parts → (s : ℕ) → IsGoneIn F s → ⊥
  none_gone fine s gone =
      let lost = gone_before F a.parts s shows.tables.groups shows.tables.lost gone in
      fine_stays (2 ^ 16) s fine (slot_low a.parts.groups s whole.groups.table (slot_at a.parts.groups s lost.0 lost.1)) gone

  -- the first fault, by what another array's parts hold
  known : (b : ArrayView) (fault : ScanFault) → IsFirstFault a.parts.groups 0 (2 ^ 16) (slot_bytes a.parts) (unit_of a.parts.groups (drive_cells b.parts)) fault
      → IsLeftOf a.parts whole.groups.table whole.drives F.units shows.units (key_at a) own_map (unit_of a.parts.groups (drive_cells b.parts)) fault
  known b fault is = first_fault a.parts whole.groups.table whole.drives F.units shows.units (key_at a) own_map (unit_of a.parts.groups (drive_cells b.parts)) fault is

  -- the first fault is out of memory, or a slot that is gone
  abbrev IsFaultOf : ScanFault → Flat → Type 0
  IsFaultOf Memory G = Unit {0}
  IsFaultOf (Gone s) G = FindsGone F G s
  IsFaultOf (BadHeader s) G = ⊥
  IsFaultOf (WrongSlot s reported) G = ⊥
  IsFaultOf (Twice block first second) G = ⊥
  IsFaultOf (NoClaim s) G = ⊥
  IsFaultOf (BadNote s) G = ⊥

  pub scan_fault : (b : ArrayView) (fault : ScanFault) → IsWhole b → OnlyLoses a b
      → IsFirstFault a.parts.groups 0 (2 ^ 16) (slot_bytes a.parts) (unit_of a.parts.groups (drive_cells b.parts)) fault → IsFaultOf fault (fared F b.parts)
  scan_fault b Memory left loses is = tt
  scan_fault b (Gone s) left loses is = record {
    gone = gone_as F a.parts b.parts s shows.tables.groups loses.1.rest lost;
    lowest = λ t below gone. fine_stays is.0 t is.5 (let same = is.4.0 in omega (arith, below, same)) gone;
    leaves = lost_leaves a F b.parts shows loses.1;
  }
    where
      none : unit_of b.parts.groups (drive_cells b.parts) s ≡ None
      none = subst (λ n. unit_of b.parts.groups (drive_cells b.parts) n ≡ None) (sym is.4.0)
          (subst (λ (g : Groups). unit_of g (drive_cells b.parts) is.0 ≡ None) (sym loses.1.rest.groups) is.4.1)

      lost : IsLost b.parts s
      lost =
          let slot : IsSlot b.parts.groups s = subst (λ n. IsSlot b.parts.groups n) (sym is.4.0) (subst (λ (g : Groups). IsSlot g is.0) (sym loses.1.rest.groups) is.1) in
          let site = slot_there b.parts.groups s slot in
          (gone_law drive_units drive_lost b.parts.groups b.parts.drives s site.0 left.groups.table left.drives site.1).0 none
  scan_fault b (BadHeader s) left loses is = known b (BadHeader s) is
  scan_fault b (WrongSlot s reported) left loses is = known b (WrongSlot s reported) is
  scan_fault b (Twice block first second) left loses is = known b (Twice block first second) is
  scan_fault b (NoClaim s) left loses is = is
  scan_fault b (BadNote s) left loses is = is

-- a world that lost drives represents the state with these drives
world_fares : (v w : WorldView) (F : Flat) → OnlyLosesOf v w → Represents v F → Represents w (fared F w.array.parts)
world_fares v w F loses rep = record {
  array = subst (λ (x : ArrayView). ShowsArray x (fared F w.array.parts)) (sym loses.1.0) (lost_shows v.array F w.array.parts rep.array loses.1.1);
  held = record { once = rep.held.once; inside = rep.held.inside };
  hands = λ s. subst (λ hands. HandSlot (hand_at hands s) (F.held s)) (sym loses.0) (rep.hands s);
}

-- a world whose slots are sound
abbrev Sound : WorldView → Type 0
Sound v = AreSound v.array.parts.groups (drive_cells v.array.parts)

-- the first fault of a world, by what is left of its units in another
abbrev IsFirst : WorldView → WorldView → ScanFault → Type 0
IsFirst v w = IsFirstFault v.array.parts.groups 0 (2 ^ 16) (slot_bytes v.array.parts) (unit_of v.array.parts.groups (drive_cells w.array.parts))

-- the fault of a world that represents a state
world_fault : (v w : WorldView) (fault : ScanFault) → IsWhole v.array → IsWhole w.array → OnlyLosesOf v w
    → (Sound v → IsFirst v w fault) → IsReportedOf v w fault
world_fault v w Memory whole left loses is = tt
world_fault v w (Gone s) whole left loses is = λ F rep.
    (fared F w.array.parts, scan_fault v.array F whole rep.array w.array (Gone s) left loses.1 (is rep.array.units.sound), world_fares v w F loses rep)
world_fault v w (BadHeader s) whole left loses is = λ F rep. scan_fault v.array F whole rep.array w.array (BadHeader s) left loses.1 (is rep.array.units.sound)
world_fault v w (WrongSlot s reported) whole left loses is = λ F rep. scan_fault v.array F whole rep.array w.array (WrongSlot s reported) left loses.1 (is rep.array.units.sound)
world_fault v w (Twice b p q) whole left loses is = λ F rep. scan_fault v.array F whole rep.array w.array (Twice b p q) left loses.1 (is rep.array.units.sound)
world_fault v w (NoClaim s) whole left loses is = λ F rep. scan_fault v.array F whole rep.array w.array (NoClaim s) left loses.1 (is rep.array.units.sound)
world_fault v w (BadNote s) whole left loses is = λ F rep. scan_fault v.array F whole rep.array w.array (BadNote s) left loses.1 (is rep.array.units.sound)

pub world_reported : (v w : WorldView) (result : Result Entries ScanFault) → IsWhole v.array → IsWhole w.array → OnlyLosesOf v w
    → (Sound v → IfErr result (IsFirst v w)) → IfErr result (IsReportedOf v w)
world_reported v w (Ok m) whole left loses is = tt
world_reported v w (Err fault) whole left loses is = world_fault v w fault whole left loses is

-- the map of one that does
pub world_map : (v w : WorldView) (result : Result Entries ScanFault) → IsWhole v.array → OnlyLosesOf v w
    → (Sound v → IfOk result (λ m. IsScanned (all_units v.array.parts) (at m)))
    → (Sound v → OnOk result (AllFine v.array.parts))
    → (Sound v → OnOk result (NoneTwice v.array.parts))
    → IfOk result (λ m. (F : Flat) → Represents v F → (G : Flat) × ScanCase F (Reported (at m)) G × Represents w G)
world_map v w (Ok m) whole loses map fine once = λ F rep.
    let sound = rep.array.units.sound in (
      fared F w.array.parts,
      (
        none_gone v.array F whole rep.array (fine sound),
        scan_history v.array F whole rep.array (at m) (fine sound) (map sound) (once sound),
        lost_leaves v.array F w.array.parts rep.array loses.1.1,
      ),
      world_fares v w F loses rep,
    )
world_map v w (Err fault) whole loses map fine once = tt
