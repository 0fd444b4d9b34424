-- What calls of the drives leave, stated over the parts as plain data.
use Rattle.std.proofs.Common.{arith, refl, [], ◌≡◌, ◌≢◌, ◌≤◌, ℕ, Bool, Option, Some, None, List, ◌++◌, ◌-◌, length, take, drop, inl, inr, sym, ◌∙◌, ap, subst, ◌+◌, true}
use Rattle.std.specs.Prelude.{replicate}
use Rattle.std.proofs.Math.Seq.{take-length}
use Rattle.std.proofs.lemmas.List.{drop-replicate, take-replicate, length-drop, take_at}
use Rattle.std.proofs.lemmas.Option.{none-some}
use Rattle.extents.specs.Failures.{Failures}
use Rattle.extents.proofs.Failures.{counts_more, steady_more}
use Rattle.extents.specs.declared.header.Header.{Header}
use Rattle.extents.specs.declared.header.Header.TheVariants.{Blank, Is}
use Rattle.extents.specs.declared.header.Kind.{Kind}
use Rattle.extents.specs.declared.header.Kind.TheVariants as kind
use Rattle.map_join.specs.Record.{IsRecord}
use Rattle.extents.specs.Header.{header_bytes, record_in, kind_in, IsHeader}
use Rattle.extents.proofs.Headers.{length-header_bytes}
use Rattle.extent_groups.specs.Groups.{Groups}
use Rattle.extent_groups.specs.Cells.{Cells}
use Rattle.extent_groups.specs.Missing.{IsGone, IsGoneAt}
use Rattle.extent_groups.specs.Units.{Site, Pair, InStripe}
use Rattle.extent_groups.specs.Stores.{unit_of, AreSound, KeepsUnits, WroteSlot}
use Rattle.extent_groups.proofs.Places.{same_or_not}
use Rattle.flat_machine.specs.declared.refusal.Refusal.{Refusal}
use Rattle.flat_machine.specs.Flat.{Content, Stored, Trim, content_under, content_in, waiting_unit, put}
use Rattle.flat_machine.specs.Steps.{Seen, Data, Stale}
use Rattle.flat_machine.specs.Cases.{Fares, IsSeen}
use Rattle.map_join.specs.declared.records.Record.{Record}
use Rattle.unit_store.specs.declared.parts.Parts.{Parts}
use Rattle.unit_store.specs.Losses.{AllFare, KeepsTables}
use Rattle.unit_store.specs.Shows.{IsUnit, ShowsUnits}
use Rattle.unit_store.specs.Slots.{cells_in, missing_in, ReportsGone}
use Rattle.unit_store.specs.Views.{PartsView, placed_unit, view_of, lost_of, Shows, IsLost, DrivesFare, SameTables, KeepsBytes, KeepsOtherBytes, bytes_at, Loses, FoundGone, WasPut, WasCopiedAs, WasCarried, WasNotCarried, WasRead, SawUnit}
use Rattle.unit_store.proofs.Shows.{shows_kept, shows_wrote, unit_of_header, zero_unit}
use Rattle.unit_store.proofs.Views.{view_cells, view_lost, view_fares}

-- what the drives of the parts show
pub shows_in : {D : Type 0} (units : D → List (List ℕ)) (lost : D → Bool) (failures : D → Failures) (p : Parts D) (f : ℕ → Option Stored) → Shows (view_of units lost failures p) f
    → ShowsUnits p.groups (cells_in units lost p) f
shows_in units lost failures p f shows = subst (λ c. ShowsUnits p.groups c f) (view_cells units lost failures p) shows

pub shows_out : {D : Type 0} (units : D → List (List ℕ)) (lost : D → Bool) (failures : D → Failures) (p : Parts D) (f : ℕ → Option Stored) → ShowsUnits p.groups (cells_in units lost p) f
    → Shows (view_of units lost failures p) f
shows_out units lost failures p f shows = subst (λ c. ShowsUnits p.groups c f) (sym (view_cells units lost failures p)) shows

-- which of their slots are gone
pub lost_in : {D : Type 0} (units : D → List (List ℕ)) (lost : D → Bool) (failures : D → Failures) (p : Parts D) (slot : ℕ) → IsLost (view_of units lost failures p) slot → IsGone p.groups (missing_in lost p) slot
lost_in units lost failures p slot gone = subst (λ m. IsGone p.groups m slot) (view_lost units lost failures p) gone

pub lost_out : {D : Type 0} (units : D → List (List ℕ)) (lost : D → Bool) (failures : D → Failures) (p : Parts D) (slot : ℕ) → IsGone p.groups (missing_in lost p) slot → IsLost (view_of units lost failures p) slot
lost_out units lost failures p slot gone = subst (λ m. IsGone p.groups m slot) (sym (view_lost units lost failures p)) gone

pub same_tables : {D : Type 0} (units : D → List (List ℕ)) (lost : D → Bool) (failures : D → Failures) (p q : Parts D) → KeepsTables p q → SameTables (view_of units lost failures p) (view_of units lost failures q)
same_tables units lost failures p q tables = record { groups = tables.groups; owners = tables.extents }

-- units that are kept are shown
pub kept_shows : {D : Type 0} (units : D → List (List ℕ)) (lost : D → Bool) (failures : D → Failures) (p q : Parts D) → KeepsTables p q
    → (AreSound p.groups (cells_in units lost p) → KeepsUnits p.groups (cells_in units lost p) (cells_in units lost q))
    → (AreSound p.groups (cells_in units lost p) → AreSound p.groups (cells_in units lost q))
    → (f : ℕ → Option Stored) → Shows (view_of units lost failures p) f → Shows (view_of units lost failures q) f
kept_shows units lost failures p q tables keeps sound f shows =
    let was = shows_in units lost failures p f shows in
    shows_out units lost failures q f (subst (λ t. ShowsUnits t (cells_in units lost q) f) (sym tables.groups)
    (shows_kept p.groups (cells_in units lost p) (cells_in units lost q) f was (keeps was.sound) (sound was.sound)))

-- the bytes of a slot's unit, as the parts have it and as their view does
bytes_in : {D : Type 0} (units : D → List (List ℕ)) (lost : D → Bool) (failures : D → Failures) (p : Parts D) (slot : ℕ) (bytes : List ℕ) → bytes_at (view_of units lost failures p) slot ≡ Some bytes
    → unit_of p.groups (cells_in units lost p) slot ≡ Some bytes
bytes_in units lost failures p slot bytes e = subst (λ c. unit_of p.groups c slot ≡ Some bytes) (view_cells units lost failures p) e

bytes_out : {D : Type 0} (units : D → List (List ℕ)) (lost : D → Bool) (failures : D → Failures) (p : Parts D) (slot : ℕ) (bytes : List ℕ) → unit_of p.groups (cells_in units lost p) slot ≡ Some bytes
    → bytes_at (view_of units lost failures p) slot ≡ Some bytes
bytes_out units lost failures p slot bytes e = subst (λ c. unit_of p.groups c slot ≡ Some bytes) (sym (view_cells units lost failures p)) e

-- units of some slots that are kept are kept byte for byte, however the tables changed
pub some_kept : {D : Type 0} (units : D → List (List ℕ)) (lost : D → Bool) (failures : D → Failures) (p q : Parts D) (which : ℕ → Type 0)
    → (AreSound p.groups (cells_in units lost p) → (slot : ℕ) (v : List ℕ) → which slot → unit_of q.groups (cells_in units lost q) slot ≡ Some v → unit_of p.groups (cells_in units lost p) slot ≡ Some v)
    → (f : ℕ → Option Stored) → Shows (view_of units lost failures p) f → (slot : ℕ) (v : List ℕ) → which slot → bytes_at (view_of units lost failures q) slot ≡ Some v
    → bytes_at (view_of units lost failures p) slot ≡ Some v
some_kept units lost failures p q which keeps f shows slot v is e =
    bytes_out units lost failures p slot v (keeps (shows_in units lost failures p f shows).sound slot v is (bytes_in units lost failures q slot v e))

pub all_kept : {D : Type 0} (units : D → List (List ℕ)) (lost : D → Bool) (failures : D → Failures) (p q : Parts D)
    → (AreSound p.groups (cells_in units lost p) → (slot : ℕ) (v : List ℕ) → unit_of q.groups (cells_in units lost q) slot ≡ Some v → unit_of p.groups (cells_in units lost p) slot ≡ Some v)
    → KeepsBytes (view_of units lost failures p) (view_of units lost failures q)
all_kept units lost failures p q keeps f shows slot v e = some_kept units lost failures p q (λ s. Unit {0}) (λ sound s w is. keeps sound s w) f shows slot v tt e

-- the same where the tables are as they were
pub kept_bytes : {D : Type 0} (units : D → List (List ℕ)) (lost : D → Bool) (failures : D → Failures) (p q : Parts D) → KeepsTables p q
    → (AreSound p.groups (cells_in units lost p) → KeepsUnits p.groups (cells_in units lost p) (cells_in units lost q))
    → KeepsBytes (view_of units lost failures p) (view_of units lost failures q)
kept_bytes units lost failures p q tables keeps =
    all_kept units lost failures p q (λ sound slot v e. keeps sound slot v (subst (λ t. unit_of t (cells_in units lost q) slot ≡ Some v) tables.groups e))

-- drives that were read may be lost
pub loses_view : {D : Type 0} (units : D → List (List ℕ)) (lost : D → Bool) (failures : D → Failures) (p q : Parts D) → KeepsTables p q → AllFare lost failures p.drives.items q.drives.items
    → (AreSound p.groups (cells_in units lost p) → KeepsUnits p.groups (cells_in units lost p) (cells_in units lost q))
    → (AreSound p.groups (cells_in units lost p) → AreSound q.groups (cells_in units lost q))
    → Loses (view_of units lost failures p) (view_of units lost failures q)
loses_view units lost failures p q tables fares keeps sound = record {
  bytes = kept_bytes units lost failures p q tables keeps;
  fares = view_fares units lost failures p q fares;
  shows = kept_shows units lost failures p q tables keeps (λ s. subst (λ t. AreSound t (cells_in units lost q)) tables.groups (sound s));
  rest = same_tables units lost failures p q tables;
}

-- a slot that was found gone
pub found_gone : {D : Type 0} (units : D → List (List ℕ)) (lost : D → Bool) (failures : D → Failures) (p q : Parts D) (slot : ℕ) (refusal : Refusal)
    → Loses (view_of units lost failures p) (view_of units lost failures q) → ReportsGone units lost q slot refusal
    → FoundGone (view_of units lost failures p) (view_of units lost failures q) slot refusal
found_gone units lost failures p q slot refusal loses reports = record { loses = loses; reported = reports.reported; gone = lost_out units lost failures q slot reports.gone }

-- a write that ends with its slot gone keeps all units: the slot has none, and those of all others are kept
wrote_none : (t : Groups) (c new : Cells) (slot : ℕ) (bytes : List ℕ) → WroteSlot t c new slot bytes → unit_of t new slot ≡ None → AreSound t c → KeepsUnits t c new
wrote_none t c new slot bytes wrote none sound other v e = elim (same_or_not other slot) [
  | inl q ↦ absurd (none-some v (sym none ∙ subst (λ s. unit_of t new s ≡ Some v) q e))
  | inr ne ↦ wrote.others sound other v ne e
]

-- so drives may have been lost, and nothing else happened
pub wrote_gone : {D : Type 0} (units : D → List (List ℕ)) (lost : D → Bool) (failures : D → Failures) (p q : Parts D) (slot : ℕ) (bytes : List ℕ) (refusal : Refusal)
    → KeepsTables p q → AllFare lost failures p.drives.items q.drives.items → WroteSlot p.groups (cells_in units lost p) (cells_in units lost q) slot bytes → ReportsGone units lost q slot refusal
    → FoundGone (view_of units lost failures p) (view_of units lost failures q) slot refusal
wrote_gone units lost failures p q slot bytes refusal tables fares wrote reports =
    let none = subst (λ t. unit_of t (cells_in units lost q) slot ≡ None) tables.groups reports.none in
    found_gone units lost failures p q slot refusal
    (record {
      bytes = kept_bytes units lost failures p q tables (wrote_none p.groups (cells_in units lost p) (cells_in units lost q) slot bytes wrote none);
      fares = view_fares units lost failures p q fares;
      shows = kept_shows units lost failures p q tables (wrote_none p.groups (cells_in units lost p) (cells_in units lost q) slot bytes wrote none) wrote.sound;
      rest = same_tables units lost failures p q tables;
    })
    reports

-- what the drives show once a slot was written
wrote_shows : {D : Type 0} (units : D → List (List ℕ)) (lost : D → Bool) (failures : D → Failures) (p q : Parts D) (slot : ℕ) (bytes : List ℕ) (u : Stored) (f : ℕ → Option Stored)
    → KeepsTables p q → WroteSlot p.groups (cells_in units lost p) (cells_in units lost q) slot bytes → IsUnit bytes u → Shows (view_of units lost failures p) f
    → Shows (view_of units lost failures q) (put f slot (Some u))
wrote_shows units lost failures p q slot bytes u f tables wrote is shows =
    shows_out units lost failures q (put f slot (Some u)) (subst (λ t. ShowsUnits t (cells_in units lost q) (put f slot (Some u))) (sym tables.groups)
    (shows_wrote p.groups (cells_in units lost p) (cells_in units lost q) f slot bytes u (shows_in units lost failures p f shows) wrote is))

-- the bytes of all other slots are kept
wrote_others : {D : Type 0} (units : D → List (List ℕ)) (lost : D → Bool) (failures : D → Failures) (p q : Parts D) (slot : ℕ) (bytes : List ℕ)
    → KeepsTables p q → WroteSlot p.groups (cells_in units lost p) (cells_in units lost q) slot bytes → KeepsOtherBytes (view_of units lost failures p) (view_of units lost failures q) slot
wrote_others units lost failures p q slot bytes tables wrote f shows other v ne e =
    some_kept units lost failures p q (λ s. s ≢ slot)
    (λ sound s w is at. wrote.others sound s w is (subst (λ t. unit_of t (cells_in units lost q) s ≡ Some w) tables.groups at)) f shows other v ne e

-- also where drives were read before
read_others : {D : Type 0} (units : D → List (List ℕ)) (lost : D → Bool) (failures : D → Failures) (p m q : Parts D) (slot : ℕ) (bytes : List ℕ)
    → Loses (view_of units lost failures p) (view_of units lost failures m) → KeepsTables m q → WroteSlot m.groups (cells_in units lost m) (cells_in units lost q) slot bytes
    → KeepsOtherBytes (view_of units lost failures p) (view_of units lost failures q) slot
read_others units lost failures p m q slot bytes loses tables wrote f shows other v ne e =
    loses.bytes f shows other v (wrote_others units lost failures m q slot bytes tables wrote f (loses.shows f shows) other v ne e)

-- the bytes at the front of a unit: its header's, or those of a blank header
pub front_of : (header : Header) (bytes rest : List ℕ) → bytes ≡ header_bytes header ++ rest → take 32 bytes ≡ header_bytes header
front_of header bytes rest made = ap (take 32) made ∙ take_at (header_bytes header) rest 32 (length-header_bytes header)

pub zeros_front : (bytes : List ℕ) (n : ℕ) → 32 ≤ n → bytes ≡ replicate n 0 → take 32 bytes ≡ header_bytes Blank
zeros_front bytes n long zeros = ap (take 32) zeros ∙ take-replicate 32 n 0 long

-- the header's bytes are those that were written
wrote_header : {D : Type 0} (units : D → List (List ℕ)) (lost : D → Bool) (failures : D → Failures) (p q : Parts D) (slot : ℕ) (bytes : List ℕ) (header : Header)
    → KeepsTables p q → WroteSlot p.groups (cells_in units lost p) (cells_in units lost q) slot bytes → take 32 bytes ≡ header_bytes header
    → (v : List ℕ) → bytes_at (view_of units lost failures q) slot ≡ Some v → take 32 v ≡ header_bytes header
wrote_header units lost failures p q slot bytes header tables wrote made v e =
    ap (take 32) (wrote.unit v (subst (λ t. unit_of t (cells_in units lost q) slot ≡ Some v) tables.groups (bytes_in units lost failures q slot v e))) ∙ made

-- a slot that was written
pub was_put : {D : Type 0} (units : D → List (List ℕ)) (lost : D → Bool) (failures : D → Failures) (p q : Parts D) (slot : ℕ) (bytes : List ℕ) (u : Stored)
    → KeepsTables p q → AllFare lost failures p.drives.items q.drives.items → WroteSlot p.groups (cells_in units lost p) (cells_in units lost q) slot bytes → IsUnit bytes u → take 32 bytes ≡ header_bytes u.header
    → (IsGone q.groups (missing_in lost q) slot → ⊥) → WasPut (view_of units lost failures p) (view_of units lost failures q) slot u
was_put units lost failures p q slot bytes u tables fares wrote is front there = record {
  others = wrote_others units lost failures p q slot bytes tables wrote;
  written = wrote_header units lost failures p q slot bytes u.header tables wrote front;
  fares = view_fares units lost failures p q fares;
  there = λ gone. there (lost_in units lost failures q slot gone);
  shows = λ f shows. wrote_shows units lost failures p q slot bytes u f tables wrote is shows;
  rest = same_tables units lost failures p q tables;
}

-- losses add up
fare_more : (was mid is : Bool) (a b c : Failures) → Fares was mid a b → Fares mid is b c → Fares was is a c
fare_more was mid is a b c one two = record {
  stays = λ h. two.stays (one.stays h);
  count = counts_more was mid is a b c one.stays two.stays one.count two.count;
  steady = steady_more was mid is a b c one.steady two.steady;
}

pub fares_more : (a b c : PartsView) → DrivesFare a b → DrivesFare b c → DrivesFare a c
fares_more a b c one two = record { many = two.many ∙ one.many; each = λ d. fare_more _ _ _ _ _ _ (one.each d) (two.each d) }

pub tables_more : (a b c : PartsView) → SameTables a b → SameTables b c → SameTables a c
tables_more a b c one two = record { groups = two.groups ∙ one.groups; owners = two.owners ∙ one.owners }

pub loses_more : (a b c : PartsView) → Loses a b → Loses b c → Loses a c
loses_more a b c one two = record {
  bytes = λ f shows slot v e. one.bytes f shows slot v (two.bytes f (one.shows f shows) slot v e);
  fares = fares_more a b c one.fares two.fares;
  shows = λ f shows. two.shows f (one.shows f shows);
  rest = tables_more a b c one.rest two.rest;
}

pub gone_more : (old new : ℕ → Bool) → ((d : ℕ) → old d ≡ true → new d ≡ true) → (site : Site) → IsGoneAt old site → IsGoneAt new site
gone_more old new stays (Pair p q) gone = (stays p.drive gone.0, stays q.drive gone.1)
gone_more old new stays (InStripe row parity i) gone =
    ((gone.0.0, gone.0.1, stays gone.0.0.drive gone.0.2), (gone.1.0, gone.1.1, gone.1.2, gone.1.3, stays gone.1.1.drive gone.1.4))

-- and what is gone stays gone
pub lost_more : (a b : PartsView) (slot : ℕ) → DrivesFare a b → SameTables a b → IsLost a slot → IsLost b slot
lost_more a b slot fares rest gone =
    subst (λ t. IsGone t (lost_of b) slot) (sym rest.groups) (gone.0, gone.1, gone_more (lost_of a) (lost_of b) (λ d h. (fares.each d).stays h) gone.0 gone.2)

-- the unit that was read is one that the drives show
pub read_shows : {D : Type 0} (units : D → List (List ℕ)) (lost : D → Bool) (failures : D → Failures) (p : Parts D) (slot : ℕ) (bytes : List ℕ) → unit_of p.groups (cells_in units lost p) slot ≡ Some bytes
    → (f : ℕ → Option Stored) → Shows (view_of units lost failures p) f → (u : Stored) × (f slot ≡ Some u) × IsUnit bytes u
read_shows units lost failures p slot bytes e f shows = (shows_in units lost failures p f shows).shown slot bytes e

-- a slot that was read, and then isn't gone, wasn't
pub source_there : {D : Type 0} (units : D → List (List ℕ)) (lost : D → Bool) (failures : D → Failures) (p q : Parts D) (slot : ℕ) → Loses (view_of units lost failures p) (view_of units lost failures q)
    → (IsGone q.groups (missing_in lost q) slot → ⊥) → IsLost (view_of units lost failures p) slot → ⊥
source_there units lost failures p q slot loses there gone = there (lost_in units lost failures q slot (lost_more (view_of units lost failures p) (view_of units lost failures q) slot loses.fares loses.rest gone))

-- the bytes of a unit with its header replaced
restamped : (bytes : List ℕ) (u : Stored) (h : Header) → IsHeader h → IsUnit bytes u → IsUnit (header_bytes h ++ drop 32 bytes) (record u { header = h })
restamped bytes u h is unit = subst (λ x. IsUnit (header_bytes h ++ drop 32 bytes) (record { header = h; payload = x })) unit.1 (unit_of_header h (drop 32 bytes) is)

-- a slot was read, and then one was written under another header
pub was_carried : {D : Type 0} (units : D → List (List ℕ)) (lost : D → Bool) (failures : D → Failures) (p m q : Parts D) (from to : ℕ) (header : Header) (read written : List ℕ)
    → Loses (view_of units lost failures p) (view_of units lost failures m) → unit_of m.groups (cells_in units lost m) from ≡ Some read → (IsGone m.groups (missing_in lost m) from → ⊥)
    → IsHeader header → written ≡ header_bytes header ++ drop 32 read
    → KeepsTables m q → AllFare lost failures m.drives.items q.drives.items → WroteSlot m.groups (cells_in units lost m) (cells_in units lost q) to written → (IsGone q.groups (missing_in lost q) to → ⊥)
    → WasCarried (view_of units lost failures p) (view_of units lost failures q) from to header
was_carried units lost failures p m q from to header read written loses e there is bytes tables fares wrote target = record {
  others = read_others units lost failures p m q to written loses tables wrote;
  written = wrote_header units lost failures m q to written header tables wrote (front_of header written (drop 32 read) bytes);
  fares = fares_more (view_of units lost failures p) (view_of units lost failures m) (view_of units lost failures q) loses.fares (view_fares units lost failures m q fares);
  source = source_there units lost failures p m from loses there;
  target = λ gone. target (lost_in units lost failures q to gone);
  shows = λ f shows.
      (let mid = loses.shows f shows in
      let u = read_shows units lost failures m from read e f mid in
      (u.0, u.1, wrote_shows units lost failures m q to written (record u.0 { header = header }) f tables wrote (subst (λ b. IsUnit b (record u.0 { header = header })) (sym bytes) (restamped read u.0 header is u.2)) mid));
  rest = tables_more (view_of units lost failures p) (view_of units lost failures m) (view_of units lost failures q) loses.rest (same_tables units lost failures m q tables);
}

-- or none was: the second is gone
pub not_carried : {D : Type 0} (units : D → List (List ℕ)) (lost : D → Bool) (failures : D → Failures) (p m q : Parts D) (from to : ℕ) (written : List ℕ) (refusal : Refusal)
    → Loses (view_of units lost failures p) (view_of units lost failures m) → (IsGone m.groups (missing_in lost m) from → ⊥)
    → KeepsTables m q → AllFare lost failures m.drives.items q.drives.items → WroteSlot m.groups (cells_in units lost m) (cells_in units lost q) to written → ReportsGone units lost q to refusal
    → WasNotCarried (view_of units lost failures p) (view_of units lost failures q) from to refusal
not_carried units lost failures p m q from to written refusal loses there tables fares wrote reports =
    let found = wrote_gone units lost failures m q to written refusal tables fares wrote reports in
    inr (source_there units lost failures p m from loses there, record { loses = loses_more (view_of units lost failures p) (view_of units lost failures m) (view_of units lost failures q) loses found.loses; reported = found.reported; gone = found.gone })

-- what follows the header, as a copy takes it
pub following : (bytes : List ℕ) → take (length bytes - 32) (drop 32 bytes) ≡ drop 32 bytes
following bytes = ap (λ n. take n (drop 32 bytes)) (sym (length-drop 32 bytes)) ∙ take-length (drop 32 bytes)

-- what a unit of this kind holds
content_reported : (u : Stored) (reported : Kind) (payload : List ℕ) → reported ≡ kind_in u.header → payload ≡ u.payload → content_under reported payload ≡ content_in u
content_reported u reported payload kind is = ap (λ k. content_under k payload) kind ∙ ap (content_under (kind_in u.header)) is

-- a slot was read
pub was_read : {D : Type 0} (units : D → List (List ℕ)) (lost : D → Bool) (failures : D → Failures) (p q : Parts D) (slot : ℕ) (bytes payload : List ℕ) (reported : Kind)
    → Loses (view_of units lost failures p) (view_of units lost failures q) → unit_of q.groups (cells_in units lost q) slot ≡ Some bytes → (IsGone q.groups (missing_in lost q) slot → ⊥)
    → ((u : Stored) → IsUnit bytes u → reported ≡ kind_in u.header) → payload ≡ drop 32 bytes
    → WasRead (view_of units lost failures p) (view_of units lost failures q) slot (content_under reported payload)
was_read units lost failures p q slot bytes payload reported loses e there kind is = record {
  loses = loses;
  there = λ gone. there (lost_in units lost failures q slot gone);
  unit = λ f shows. (let u = read_shows units lost failures q slot bytes e f (loses.shows f shows) in (u.0, u.1, content_reported u.0 reported payload (kind u.0 u.2) (is ∙ u.2.1)));
}

-- and what its unit says about a record was seen
saw_unit : {D : Type 0} (units : D → List (List ℕ)) (lost : D → Bool) (failures : D → Failures) (p q : Parts D) (r : Record) (bytes : List ℕ) (seen : Seen)
    → Loses (view_of units lost failures p) (view_of units lost failures q) → unit_of q.groups (cells_in units lost q) r.place ≡ Some bytes → (IsGone q.groups (missing_in lost q) r.place → ⊥)
    → ((u : Stored) → IsUnit bytes u → IsSeen (Some u) r seen) → SawUnit (view_of units lost failures p) (view_of units lost failures q) r seen
saw_unit units lost failures p q r bytes seen loses e there says = record {
  loses = loses;
  there = λ gone. there (lost_in units lost failures q r.place gone);
  unit = λ f shows. (let u = read_shows units lost failures q r.place bytes e f (loses.shows f shows) in (u.0, u.1, says u.0 u.2));
}

pub saw_data : {D : Type 0} (units : D → List (List ℕ)) (lost : D → Bool) (failures : D → Failures) (p q : Parts D) (r : Record) (bytes payload : List ℕ) (header : Header)
    → Loses (view_of units lost failures p) (view_of units lost failures q) → unit_of q.groups (cells_in units lost q) r.place ≡ Some bytes → (IsGone q.groups (missing_in lost q) r.place → ⊥)
    → ((u : Stored) → IsUnit bytes u → header ≡ u.header) → record_in header ≡ Some r → payload ≡ drop 32 bytes
    → SawUnit (view_of units lost failures p) (view_of units lost failures q) r (Data (content_under (kind_in header) payload))
saw_data units lost failures p q r bytes payload header loses e there reported same is =
    saw_unit units lost failures p q r bytes (Data (content_under (kind_in header) payload)) loses e there
    (λ u unit. (ap record_in (sym (reported u unit)) ∙ same, content_reported u (kind_in header) payload (ap kind_in (reported u unit)) (is ∙ unit.1)))

pub saw_stale : {D : Type 0} (units : D → List (List ℕ)) (lost : D → Bool) (failures : D → Failures) (p q : Parts D) (r : Record) (bytes : List ℕ) (header : Header)
    → Loses (view_of units lost failures p) (view_of units lost failures q) → unit_of q.groups (cells_in units lost q) r.place ≡ Some bytes → (IsGone q.groups (missing_in lost q) r.place → ⊥)
    → ((u : Stored) → IsUnit bytes u → header ≡ u.header) → (record_in header ≡ Some r → ⊥)
    → SawUnit (view_of units lost failures p) (view_of units lost failures q) r (Stale (record_in header))
saw_stale units lost failures p q r bytes header loses e there reported other =
    saw_unit units lost failures p q r bytes (Stale (record_in header)) loses e there (λ u unit. (λ h. other (ap record_in (reported u unit) ∙ h), ap record_in (reported u unit)))

-- the bytes of a unit that waits: for data a blank header followed by its payload, and zeros for a trim
pub waits_data : (bytes : List ℕ) (size : ℕ) (u : Stored) → IsUnit bytes u → kind.Data ≡ kind_in u.header → IsUnit (header_bytes Blank ++ drop 32 bytes) (waiting_unit size (content_in u))
waits_data bytes size u is reported =
    subst (λ k. IsUnit (header_bytes Blank ++ drop 32 bytes) (waiting_unit size (content_under k u.payload))) reported (restamped bytes u Blank tt is)

pub waits_trim : (bytes : List ℕ) (size : ℕ) (u : Stored) → length bytes ≡ 32 + size → kind.Trim ≡ kind_in u.header → IsUnit (replicate (length bytes) 0) (waiting_unit size (content_in u))
waits_trim bytes size u long reported =
    subst (λ k. IsUnit (replicate (length bytes) 0) (waiting_unit size (content_under k u.payload))) reported (subst (λ n. IsUnit (replicate n 0) (waiting_unit size Trim)) (sym long) (zero_unit size))

-- and the bytes of one that was committed: its record's header, followed by the payload, or by zeros for a trim
pub placed_data : (r : Record) (bytes : List ℕ) (size : ℕ) (u : Stored) → IsRecord r → IsUnit bytes u → kind.Data ≡ kind_in u.header
    → IsUnit (header_bytes (Is r kind.Data) ++ drop 32 bytes) (placed_unit r size (content_in u))
placed_data r bytes size u ok is reported =
    subst (λ k. IsUnit (header_bytes (Is r kind.Data) ++ drop 32 bytes) (placed_unit r size (content_under k u.payload))) reported (restamped bytes u (Is r kind.Data) ok is)

pub zeros_under : (header : Header) (n size : ℕ) → IsHeader header → n ≡ 32 + size → IsUnit (header_bytes header ++ drop 32 (replicate n 0)) (record { header = header; payload = replicate size 0 })
zeros_under header n size ok long = subst (λ rest. IsUnit (header_bytes header ++ rest) (record { header = header; payload = replicate size 0 })) (sym zeros) (unit_of_header header (replicate size 0) ok)
  where
    zeros : drop {A = ℕ} 32 (replicate n 0) ≡ replicate size 0
    zeros = drop-replicate 32 n 0 ∙ ap (λ m. replicate m 0) (omega (arith, long))

pub placed_trim : (r : Record) (bytes : List ℕ) (size : ℕ) (u : Stored) → IsRecord r → length bytes ≡ 32 + size → kind.Trim ≡ kind_in u.header
    → IsUnit (header_bytes (Is r kind.Trim) ++ drop 32 (replicate (length bytes) 0)) (placed_unit r size (content_in u))
placed_trim r bytes size u ok long reported =
    subst (λ k. IsUnit (header_bytes (Is r kind.Trim) ++ drop 32 (replicate (length bytes) 0)) (placed_unit r size (content_under k u.payload))) reported (zeros_under (Is r kind.Trim) (length bytes) size ok long)

-- the header of a unit that was committed is its record's, of the kind of what it holds
pub placed_header : (r : Record) (size : ℕ) (k : Kind) → Is r k ≡ (placed_unit r size (content_under k [])).header
placed_header r size kind.Data = refl
placed_header r size kind.Trim = refl

-- a slot was read, and what it holds was written as a unit that was made of it
pub was_copied : {D : Type 0} (made : ℕ → Content → Stored) (units : D → List (List ℕ)) (lost : D → Bool) (failures : D → Failures) (p m q : Parts D) (from to size : ℕ) (reported : Kind) (read written : List ℕ)
    → Loses (view_of units lost failures p) (view_of units lost failures m) → unit_of m.groups (cells_in units lost m) from ≡ Some read → (IsGone m.groups (missing_in lost m) from → ⊥)
    → size ≡ p.groups.payload → ((u : Stored) → IsUnit read u → (reported ≡ kind_in u.header) × IsUnit written (made size (content_in u)))
    → take 32 written ≡ header_bytes (made p.groups.payload (content_under reported [])).header
    → KeepsTables m q → AllFare lost failures m.drives.items q.drives.items → WroteSlot m.groups (cells_in units lost m) (cells_in units lost q) to written → (IsGone q.groups (missing_in lost q) to → ⊥)
    → WasCopiedAs made (view_of units lost failures p) (view_of units lost failures q) from to reported
was_copied made units lost failures p m q from to size reported read written loses e there long waits front tables fares wrote target = record {
  others = read_others units lost failures p m q to written loses tables wrote;
  written = wrote_header units lost failures m q to written (made p.groups.payload (content_under reported [])).header tables wrote front;
  fares = fares_more (view_of units lost failures p) (view_of units lost failures m) (view_of units lost failures q) loses.fares (view_fares units lost failures m q fares);
  source = source_there units lost failures p m from loses there;
  target = λ gone. target (lost_in units lost failures q to gone);
  shows = λ f shows.
      (let mid = loses.shows f shows in
      let u = read_shows units lost failures m from read e f mid in
      let w = waits u.0 u.2 in (
        u.0,
        u.1,
        w.0,
        wrote_shows units lost failures m q to written (made p.groups.payload (content_in u.0)) f tables wrote
            (subst (λ n. IsUnit written (made n (content_in u.0))) long w.1) mid,
      ));
  rest = tables_more (view_of units lost failures p) (view_of units lost failures m) (view_of units lost failures q) loses.rest (same_tables units lost failures m q tables);
}
