-- A restarted array has the block map and the bytes of the array whose units its drives had.
use Rattle.std.proofs.Common.{◌≡◌, ℕ, Bool, List, map, Contains, refl, sym, ◌∙◌, ap, subst, Option, Some}
use Rattle.std.specs.Prelude.{◌/◌, ◌%◌, ◌↔◌, slice_index}
use Rattle.map_join.specs.declared.records.Record.{Record}
use Rattle.map_join.specs.Record.{record_at}
use Rattle.map_join.specs.Maps.{IsSame, IsListOf}
use Rattle.extent_groups.specs.Groups.{Groups}
use Rattle.extent_groups.proofs.LayoutLaw.{layout_law}
use Rattle.unit_store.specs.Shows.{ShowsUnits}
use Rattle.unit_store.specs.Views.{PartsView, drive_cells, lost_of, failed_of, view_of}
use Rattle.unit_store.specs.Losses.{LosesOnly}
use Rattle.unit_store.specs.declared.parts.Parts.{Parts}
use Rattle.unit_store.proofs.Reading.{keeps_fare}
use Rattle.unit_store.proofs.Views.{view_fares}
use Rattle.extents.specs.Failures.{Failures}
use Rattle.flat_machine.specs.Cases.{Leaves}
use Rattle.flat_machine.specs.Flat.{Flat, Stored, Write, last_write}
use Rattle.flat_machine.specs.History.{IsHistory}
use Rattle.flat_machine.specs.Restarted.{IsRestarted, ReportMap, restarted, write_at}
use Rattle.slot_tables.specs.Adopted.{HasParts}
use Rattle.slot_tables.specs.Claims.{IsWorkerFree}
use Rattle.slot_tables.specs.Represents.{ShowsArray}
use Rattle.slot_tables.specs.Views.{ArrayView, key_at}
use Rattle.header_scan.specs.Restarts.{HasUnits}
use Rattle.tiered_array.specs.Matches.{RepresentsTiers}
use Rattle.tiered_array.specs.Tiered.{Tiered, begun}
use Rattle.tiered_array.specs.Views.{TiersView}
use Rattle.array_store.specs.Blocks.{Holds, SpansBlocks, bytes_in}
use Rattle.array_recovery.specs.Reopened.{LosesMore, Outlives}
use Rattle.array_recovery.proofs.Fading.{shows_fade}

-- the laws of restarts
pub record Laws : Type 0 where
  pub reports : (F : Flat) (keys : ℕ → ℕ) → IsHistory F keys → ReportMap F.groups F.units keys
  pub one : (groups : Groups) (units : ℕ → Option Stored) (M N : ℕ → ℕ) → ReportMap groups units M → ReportMap groups units N → IsSame M N
  pub writes : (F : Flat) (keys : ℕ → ℕ) (records : List Record) → IsHistory F keys → IsListOf keys records
      → (b : ℕ) → last_write (restarted F keys records).writes b ≡ last_write F.writes b

-- a list of a map is one of each map that is the same
list_same : (M N : ℕ → ℕ) (records : List Record) → IsSame M N → IsListOf M records → IsListOf N records
list_same M N records same list = record {
  rising = list.rising;
  each = λ r. subst (λ k. Contains records r ↔ (record_at r.block k ≡ Some r)) (same r.block) (list.each r);
}

module _ (laws : Laws) (was : TiersView) (state : Tiered) (matches_were : RepresentsTiers was state) (v : PartsView) (outlives : Outlives was.world.array.parts v) where
  abbrev F : Flat
  F = state.flat

  abbrev keys_were : ℕ → ℕ
  keys_were = key_at was.world.array

  shown : ShowsArray was.world.array F
  shown = matches_were.world.array

  report : ReportMap F.groups F.units keys_were
  report = laws.reports F keys_were shown.history

  -- the state of before, but for drives that are lost now
  abbrev left : Flat
  left = record F { lost = lost_of v; failures = failed_of v }

  same_groups : F.groups ≡ v.groups
  same_groups = shown.tables.groups ∙ sym outlives.groups

  has : HasParts v left
  has = record {
    groups = same_groups;
    drives = shown.tables.drives ∙ sym outlives.many;
    lost = refl;
    failures = refl;
    units = subst (λ (g : Groups). ShowsUnits g (drive_cells v) F.units) same_groups
        (shows_fade F.groups (drive_cells was.world.array.parts) (drive_cells v) F.units (layout_law F.groups shown.history.groups.table) report.sized
        (subst (λ (g : Groups). ShowsUnits g (drive_cells was.world.array.parts) F.units) (sym shown.tables.groups) shown.units) outlives.fades);
  }

  there : HasUnits left
  there = report.there

  module _ (a : ArrayView) (keys : ℕ → ℕ) (same : IsSame (key_at a) keys) (G H : Flat) (leaves : Leaves left G) (is : IsRestarted G keys H) (shows : ShowsArray a H) where
    groups_are : H.groups ≡ F.groups
    groups_are = ap (λ (x : Flat). x.groups) is.is ∙ ap (λ (x : Flat). x.groups) leaves.same

    units_are : H.units ≡ F.units
    units_are = ap (λ (x : Flat). x.units) is.is ∙ ap (λ (x : Flat). x.units) leaves.same

    writes_are : H.writes ≡ map (write_at F.units) H.emitted
    writes_are =
        ap (λ (x : Flat). x.writes) is.is ∙ ap (λ (u : ℕ → Option Stored). map (write_at u) H.emitted) (ap (λ (x : Flat). x.units) leaves.same)

    report_now : ReportMap F.groups F.units (key_at a)
    report_now = subst (λ (g : Groups). ReportMap g F.units (key_at a)) groups_are (subst (λ (u : ℕ → Option Stored). ReportMap H.groups u (key_at a)) units_are (laws.reports H (key_at a) shows.history))

    -- units have one map
    pub keys_same : IsSame (key_at a) keys_were
    keys_same b = laws.one F.groups F.units (key_at a) keys_were report_now report b

    list : IsListOf keys_were H.emitted
    list = list_same keys keys_were H.emitted (λ b. sym (same b) ∙ keys_same b) is.log

    last_are : (b : ℕ) → last_write H.writes b ≡ last_write F.writes b
    last_are b = ap (λ (ws : List Write). last_write ws b) writes_are ∙ laws.writes F keys_were H.emitted shown.history list b

    pub idle : IsWorkerFree H
    idle = subst IsWorkerFree (sym is.is) (λ s w. (refl, refl))

    pub rebuilt : (bytes : List ℕ) → SpansBlocks F.groups.payload F.writes bytes → (tiers : TiersView) → RepresentsTiers tiers (begun H) → Holds tiers bytes
    rebuilt bytes spans tiers matches = record {
      state = begun H;
      matches = matches;
      shows = subst (λ (g : Groups). SpansBlocks g.payload H.writes bytes) (sym groups_are) (record {
        each = λ i low. spans.each i low
            ∙ ap (λ (o : Option Write). slice_index (bytes_in F.groups.payload o) (i % F.groups.payload)) (sym (last_are (i / F.groups.payload)));
      });
    }

  -- what a restart made of the parts, and what is kept next to it
  module _ (a : ArrayView) (keys : ℕ → ℕ) (same : IsSame (key_at a) keys)
      (flat : (E : Flat) → HasParts v E → HasUnits E → (G : Flat) × (H : Flat) × Leaves E G × IsRestarted G keys H × ShowsArray a H) where
    pub rebuilt_of : (bytes : List ℕ) → SpansBlocks F.groups.payload F.writes bytes
        → (tiers : TiersView) → ((E : Flat) → ShowsArray a E → IsWorkerFree E → RepresentsTiers tiers (begun E)) → Holds tiers bytes
    rebuilt_of bytes spans tiers matches =
        let made = flat left has there in
        rebuilt a keys same made.0 made.1 made.2 made.3 made.4 bytes spans tiers (matches made.1 made.4 (idle a keys same made.0 made.1 made.2 made.3 made.4))

    pub keys_of_restart : IsSame (key_at a) keys_were
    keys_of_restart = let made = flat left has there in keys_same a keys same made.0 made.1 made.2 made.3 made.4

-- what a restart left of the parts
pub loses_more : {D : Type 0} (units : D → List (List ℕ)) (lost : D → Bool) (failures : D → Failures) (parts left : Parts D) → LosesOnly units lost failures parts left
    → (v : PartsView) → v ≡ view_of units lost failures left → LosesMore (view_of units lost failures parts) v
loses_more units lost failures parts left loses v is =
    let fares = view_fares units lost failures parts left (keeps_fare parts.drives.items left.drives.items loses.drives) in
    subst (λ (w : PartsView). LosesMore (view_of units lost failures parts) w) (sym is) (record {
      groups = loses.tables.groups;
      many = fares.many;
      lost = λ d was. (fares.each d).stays was;
    })
