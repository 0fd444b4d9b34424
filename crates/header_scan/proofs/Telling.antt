-- Headers that a scan finds fine, over what parts of an array show: the units hold the map of the scan.
use Rattle.std.proofs.Common.{◌≡◌, ◌≢◌, ℕ, ◌/◌, ◌%◌, ◌^◌, ◌<◌, ◌≤◌, ◌⊎◌, inl, inr, true, false, Option, Some, None, List, length, take, drop, refl, sym, ◌∙◌, ap, subst, arith}
use Rattle.std.specs.Prelude.{slice_get, unwrap_or, is_some, replicate}
use Rattle.std.proofs.lemmas.Bool.{cases_order}
use Rattle.std.proofs.lemmas.List.{length-drop}
use Rattle.std.proofs.lemmas.Option.{same_Some, none-some, slice_get_past}
use Rattle.map_join.specs.declared.records.Record.{Record}
use Rattle.map_join.specs.Record.{key_of, record_of, stamp_of, stamp_in}
use Rattle.extents.specs.Header.{Spells, record_in}
use Rattle.extents.proofs.Headers.{one_header}
use Rattle.extent_groups.specs.declared.place.Place.{Place}
use Rattle.extent_groups.specs.declared.class.Class.{Class}
use Rattle.extent_groups.specs.Groups.{Groups, AreGroups, group_at, slots_in}
use Rattle.extent_groups.specs.Cells.{Cells, held}
use Rattle.extent_groups.specs.Units.{Site, Pair, InStripe, put, others, or_else, row_of, unit_at, unit_in, site_of}
use Rattle.extent_groups.specs.Stores.{unit_bytes, AreSound, AreDrives}
use Rattle.extent_groups.proofs.DriveCalls.{cells_sized}
use Rattle.extent_groups.proofs.Fading.{row_sized}
use Rattle.extent_groups.proofs.Totals.{total_sized, put_sized}
use Rattle.unit_store.specs.Shows.{IsUnit}
use Rattle.unit_store.specs.Slots.{IsSlot}
use Rattle.unit_store.specs.Views.{PartsView, Shows, drive_cells, drive_units, drive_lost}
use Rattle.unit_store.proofs.Shows.{shown_header}
use Rattle.slot_tables.proofs.Wholes.{slot_of_class}
use Rattle.flat_machine.specs.Flat.{Stored, Content, content_in}
use Rattle.flat_machine.specs.Groups.{class_at}
use Rattle.flat_machine.specs.History.{IsHeaderOf, IsAt}
use Rattle.flat_machine.specs.Restarted.{ReportMap}
use Rattle.flat_machine.specs.Scanned.{HasHeader, IsScanned}
use Rattle.flat_machine.proofs.Newest.{reported_again, key_least}
use Rattle.step_core.specs.Headline.{slot_bytes}
use Rattle.header_scan.specs.Faults.{SlotUnits, between, Reports, AreFine, IsTwice}
use Rattle.header_scan.proofs.Scanning.{has_unit, ranged, reported_header}
use Rattle.header_scan.proofs.Ending.{own_reported}
use Rattle.header_scan.proofs.Placing.{classed}
use Rattle.header_scan.proofs.Twins.{has_or_not, matches_once}

-- the units of all slots
abbrev pub all_units : PartsView → SlotUnits
all_units v = between 0 (2 ^ 16) (slot_bytes v)

-- their headers are fine
abbrev pub AllFine : PartsView → Type 0
AllFine v = AreFine v.groups 0 (2 ^ 16) (slot_bytes v)

-- and no block occurs twice
abbrev pub NoneTwice : PartsView → Type 0
NoneTwice v = (block first second : ℕ) → IsTwice (all_units v) block first second → ⊥

-- a group's number is below 512, and so its slots are below 65536
group_low : (groups : Groups) (g index : ℕ) → length groups.table ≡ 512 → index < slots_in groups.segments (group_at groups g) → g < 512
group_low groups g index long inside = elim (cases_order g 512) [
  | inl e ↦ past (omega (arith, e))
  | inr o ↦ elim o [ inl below ↦ below | inr above ↦ past (omega (arith, above)) ]
]
  where
    past : 512 ≤ g → g < 512
    past high =
        let out : slice_get groups.table g ≡ None = slice_get_past groups.table g (omega (arith, long, high)) in
        let none : slots_in groups.segments (group_at groups g) ≡ 0 = ap (λ o. slots_in groups.segments (unwrap_or o None)) out in
        absurd (omega (arith, inside, none))

pub slot_low : (groups : Groups) (slot : ℕ) → AreGroups groups → IsSlot groups slot → slot < 2 ^ 16
slot_low groups slot are is = let low = group_low groups (slot / 128) (slot % 128) are.numbers is in omega (arith, low)

-- an effective unit has the length of all units
or_sized : (n : ℕ) (a b : Option (List ℕ)) → ((u : List ℕ) → a ≡ Some u → length u ≡ n) → ((u : List ℕ) → b ≡ Some u → length u ≡ n) → (v : List ℕ) → or_else a b ≡ Some v → length v ≡ n
or_sized n None b one two v e = two v e
or_sized n (Some u) b one two v e = one v e

site_sized : (n : ℕ) (c : Cells) (site : Site) → ((x : Place) (u : List ℕ) → held c x ≡ Some u → length u ≡ n) → (v : List ℕ) → unit_at n c site ≡ Some v → length v ≡ n
site_sized n c (Pair p q) sized v e = or_sized n (held c p) (held c q) (sized p) (sized q) v e
site_sized n c (InStripe row parity i) sized v e =
    or_sized n (row_of c row i) (others n (length row) (row_of c row) i) (row_sized n c row sized i)
    (total_sized n (length row) (put (row_of c row) i (Some (replicate n 0))) (put_sized n i (row_of c row) (row_sized n c row sized))) v e

in_sized : (n : ℕ) (c : Cells) (o : Option Site) → ((x : Place) (u : List ℕ) → held c x ≡ Some u → length u ≡ n) → (v : List ℕ) → unit_in n c o ≡ Some v → length v ≡ n
in_sized n c None sized v e = absurd (none-some v e)
in_sized n c (Some site) sized v e = site_sized n c site sized v e

unit_sized : (v : PartsView) (slot : ℕ) (unit : List ℕ) → AreDrives drive_units v.groups v.drives → slot_bytes v slot ≡ Some unit → length unit ≡ unit_bytes v.groups
unit_sized v slot unit drives e =
    in_sized (unit_bytes v.groups) (drive_cells v) (site_of v.groups slot) (cells_sized drive_units drive_lost (unit_bytes v.groups) v.drives drives.sized) unit e

-- a slot that has a unit where those with a class have one has a class
has_class : (unit : Option Stored) (class : Option Class) (u : Stored) → is_some unit ≡ is_some class → unit ≡ Some u → class ≢ None
has_class unit class u same at none = let bad : true ≡ false = sym (ap is_some at) ∙ same ∙ ap is_some none in cc

module _ (v : PartsView) (groups : AreGroups v.groups) (drives : AreDrives drive_units v.groups v.drives) (units : ℕ → Option Stored) (shows : Shows v units) (there : (s : ℕ) → is_some (units s) ≡ is_some (class_at v.groups s)) (fine : AllFine v) where
  -- the header of a slot that has a unit is read
  slot_reported : (s : ℕ) (u : Stored) → units s ≡ Some u → (o : Option Record) × Reports v.groups.blocks (slot_bytes v) s o
  slot_reported s u at =
      let is = slot_of_class v.groups s (has_class (units s) (class_at v.groups s) u (there s) at) in
      fine s is (omega arith) (slot_low v.groups s groups is)

  -- the bytes of a slot are those of its unit
  is_unit : (s : ℕ) (u : Stored) (bytes : List ℕ) → units s ≡ Some u → slot_bytes v s ≡ Some bytes → IsUnit bytes u
  is_unit s u bytes at e = let w = shows.shown s bytes e in subst (IsUnit bytes) (same_Some w.0 u (sym w.1 ∙ at)) w.2

  payload_sized : (s : ℕ) (u : Stored) → units s ≡ Some u → length u.payload ≡ v.groups.payload
  payload_sized s u at =
      let reported = (slot_reported s u at).1 in
      let long = unit_sized v s reported.0 drives reported.1 in
      let short = length-drop 32 reported.0 in
      let payload : length (drop 32 reported.0) ≡ length u.payload = ap length (is_unit s u reported.0 at reported.1).1 in
      omega (arith, long, short, payload)

  -- a record in the header of a unit is read
  pub record_reported : (s : ℕ) (u : Stored) (r : Record) → units s ≡ Some u → record_in u.header ≡ Some r → Reports v.groups.blocks (slot_bytes v) s (Some r)
  record_reported s u r at header =
      let reported = slot_reported s u at in
      let spelled = (is_unit s u reported.1.0 at reported.1.1).0 in
      let same : reported.0 ≡ Some r = sym reported.1.2.2 ∙ ap record_in (one_header (take 32 reported.1.0) reported.1.2.0 u.header reported.1.2.1 spelled) ∙ header in
      subst (λ o. Reports v.groups.blocks (slot_bytes v) s o) same reported.1

  module _ (M : ℕ → ℕ) (map : IsScanned (all_units v) M) where
    -- a header of the scan, and the unit that shows it
    header_there : (slot : ℕ) (r : Record) → HasHeader (all_units v) slot r → (u : Stored) × (units r.place ≡ Some u) × (record_in u.header ≡ Some r)
    header_there slot r h =
        let reported = own_reported v.groups (drive_cells v) 0 (2 ^ 16) slot r fine h in
        let w = reported_header v.groups.blocks (slot_bytes v) slot r reported in
        let shown = shows.shown slot w.0 w.1 in
        (shown.0, ap units reported.3.1 ∙ shown.1, ap record_in (shown_header w.0 shown.0 w.2.0 shown.2 w.2.1) ∙ w.2.2)

    -- a key's record is in the header of its place
    key_there : (b : ℕ) → 0 < M b → (x : Content) × IsAt units (record_of b (M b)) x
    key_there b some =
        let f = map.found b some in
        let reported = own_reported v.groups (drive_cells v) 0 (2 ^ 16) f.0 f.1 fine f.2 in
        let unit = header_there f.0 f.1 f.2 in
        let same : record_of b (M b) ≡ f.1 = ap (λ key. record_of b key) (sym f.4) ∙ ap (λ c. record_of c (key_of f.1)) (sym f.3) ∙ reported_again f.1 reported.4 in (
          content_in unit.0,
          subst (λ (r : Record). IsAt units r (content_in unit.0)) (sym same) (record { stored = unit.0; there = unit.1; header = unit.2; content = refl }),
        )

    module _ (once : NoneTwice v) where
      -- a record of the newest stamp is the newest
      newest_or_older : (s : ℕ) (r : Record) → Reports v.groups.blocks (slot_bytes v) s (Some r) → s < 2 ^ 16 → (key_of r ≡ M r.block) ⊎ (stamp_of r < stamp_in (M r.block))
      newest_or_older s r reports low = by (cases_order (stamp_of r) (stamp_in (M r.block)))
        where
          here : HasHeader (all_units v) s r
          here = ranged 0 (2 ^ 16) (slot_bytes v) s r (omega arith) low (reported_header v.groups.blocks (slot_bytes v) s r reports)

          most : key_of r ≤ M r.block
          most = map.most s r here

          some : 0 < M r.block
          some = let least = key_least r reports.4 in omega (arith, least, most)

          top : (q : Record) (slot : ℕ) → HasHeader (all_units v) slot q → q.block ≡ r.block → stamp_of q ≤ stamp_in (M r.block)
          top q slot h block = let less = map.most slot q h in let same : M q.block ≡ M r.block = ap M block in omega (arith, less, same)

          by : (stamp_of r ≡ stamp_in (M r.block)) ⊎ ((stamp_of r < stamp_in (M r.block)) ⊎ (stamp_in (M r.block) < stamp_of r)) → (key_of r ≡ M r.block) ⊎ (stamp_of r < stamp_in (M r.block))
          by (inr (inl less)) = inr less
          by (inr (inr more)) = absurd (omega (arith, more, most))
          by (inl e) =
              let f = map.found r.block some in
              let reported = own_reported v.groups (drive_cells v) 0 (2 ^ 16) f.0 f.1 fine f.2 in
              let small = reported.4.place in
              let key = f.4 in
              let stamp : stamp_of f.1 ≡ stamp_in (M r.block) = omega (arith, key, small) in
              let slot : s ≡ f.0 = matches_once (all_units v) r.block (stamp_in (M r.block))
              (λ t. has_or_not v.groups (drive_cells v) 0 (2 ^ 16) r.block (stamp_in (M r.block)) t fine) (λ t q h block. top q t h block) (once r.block) s f.0 (r, here, refl, e) (f.1, f.2, f.3, stamp)
              in
              let one = reports.3.1 in
              let other = reported.3.1 in
              inl (omega (arith, e, stamp, slot, one, other, key))

      header_of : (s : ℕ) (u : Stored) (r : Record) → units s ≡ Some u → record_in u.header ≡ Some r → IsHeaderOf M s r
      header_of s u r at header =
          let reports = record_reported s u r at header in
          let is = slot_of_class v.groups s (has_class (units s) (class_at v.groups s) u (there s) at) in
          record { ranges = reports.4; place = reports.3.1; newest = newest_or_older s r reports (slot_low v.groups s groups is) }

      pub scan_reports : ReportMap v.groups units M
      scan_reports = record {
        there = there;
        sized = payload_sized;
        header = header_of;
        blocks = λ s u r at header. (record_reported s u r at header).3.0;
        found = key_there;
      }

module _ (v : PartsView) (groups : AreGroups v.groups) (fine : AllFine v) where
  -- of a slot that has a class, what its header holds
  class_reported : (s : ℕ) (class : Class) → class_at v.groups s ≡ Some class → (o : Option Record) × Reports v.groups.blocks (slot_bytes v) s o
  class_reported s class e =
      let is = slot_of_class v.groups s (λ none. none-some class (sym none ∙ e)) in
      fine s is (omega arith) (slot_low v.groups s groups is)

  -- the unit that the bytes of a slot spell, if the slot is of a group
  abbrev spelled : (s : ℕ) (o : Option Class) → class_at v.groups s ≡ o → Option Stored
  spelled s None e = None
  spelled s (Some class) e = Some (record { header = (class_reported s class e).1.2.0; payload = drop 32 (class_reported s class e).1.0 })

  abbrev spelled_units : ℕ → Option Stored
  spelled_units s = spelled s (class_at v.groups s) refl

  spelled_there : (s : ℕ) (o : Option Class) (e : class_at v.groups s ≡ o) → is_some (spelled s o e) ≡ is_some o
  spelled_there s None e = refl
  spelled_there s (Some class) e = refl

  spelled_shown : (s : ℕ) (o : Option Class) (e : class_at v.groups s ≡ o) (bytes : List ℕ) → slot_bytes v s ≡ Some bytes → (u : Stored) × (spelled s o e ≡ Some u) × IsUnit bytes u
  spelled_shown s None e bytes at = absurd (classed v.groups s (has_unit v.groups (drive_cells v) s bytes at) e)
  spelled_shown s (Some class) e bytes at =
      let reported = (class_reported s class e).1 in
      let same : reported.0 ≡ bytes = same_Some reported.0 bytes (sym reported.1 ∙ at) in
      (record { header = reported.2.0; payload = drop 32 reported.0 }, refl, (subst (λ b. Spells (take 32 b) reported.2.0) same reported.2.1, sym (ap (λ b. drop 32 b) same)))

  -- the drives show units, one for each slot of a group
  pub scan_units : AreSound v.groups (drive_cells v) → (units : ℕ → Option Stored) × Shows v units × ((s : ℕ) → is_some (units s) ≡ is_some (class_at v.groups s))
  scan_units sound = (
    spelled_units,
    record { sound = sound; shown = λ s bytes at. spelled_shown s (class_at v.groups s) refl bytes at },
    λ s. spelled_there s (class_at v.groups s) refl,
  )
