-- An array's parts as plain data, and what calls of its drives leave of its slots, stated over any units that the drives
-- show.
use Rattle.std.specs.Prelude.{◌≡◌, ◌≢◌, ◌⊎◌, ℕ, ◌+◌, ◌/◌, Bool, false, List, [], length, take, map, Option, Some, None}
use Rattle.extents.specs.Failures.{Failures}
use Rattle.map_join.specs.declared.records.Record.{Record}
use Rattle.extents.specs.declared.header.Header.{Header}
use Rattle.extents.specs.declared.header.Kind.{Kind}
use Rattle.extents.specs.Header.{header_bytes, kind_in}
use Rattle.extents.specs.declared.shape.TheConstants.{HEADER_BYTES}
use Rattle.extents.specs.Owners.{Owners, with_drive}
use Rattle.extent_groups.specs.declared.class.Class.{Class}
use Rattle.extent_groups.specs.declared.class.Member.{Member}
use Rattle.extent_groups.specs.Geometry.{slot_count}
use Rattle.extent_groups.specs.Groups.{Groups, members_of, with_group, with_owners, Agree, IsSwap, IsMove}
use Rattle.extent_groups.specs.Cells.{Cells, cells}
use Rattle.extent_groups.specs.Missing.{missing_of, IsGone}
use Rattle.extent_groups.specs.Stores.{unit_of}
use Rattle.flat_machine.specs.declared.refusal.Refusal.{Refusal}
use Rattle.flat_machine.specs.declared.refusal.Refusal.TheVariants.{Gone}
use Rattle.flat_machine.specs.Groups.{ArePresent}
use Rattle.flat_machine.specs.Moves.{without_group, IsBeyondOf}
use Rattle.flat_machine.specs.Flat.{Stored, Content, content_under, content_in, bytes_of, header_for, waiting_unit, put}
use Rattle.flat_machine.specs.Steps.{Seen, Data, Stale}
use Rattle.flat_machine.specs.Cases.{IsSeen, wiped}
use Rattle.unit_store.specs.declared.parts.Parts.{Parts}
use Rattle.unit_store.specs.declared.see.Sight.{Sight}
use Rattle.unit_store.specs.declared.see.Sight.TheVariants as sight
use Rattle.unit_store.specs.Losses.{AllFare, failures_by_drive}
use Rattle.unit_store.specs.Making.{ReportsLost}
use Rattle.unit_store.specs.Shifting.{IsWhyUnmoved}
use Rattle.unit_store.specs.Shows.{ShowsUnits}

-- a drive: its units, whether it is lost, how often it failed spontaneously, and whether it is steady
pub record DriveView : Type 0 where
  pub units : List (List ℕ)
  pub lost : Bool
  pub failures : Failures

abbrev pub drive_units : DriveView → List (List ℕ)
drive_units d = d.units

abbrev pub drive_lost : DriveView → Bool
drive_lost d = d.lost

abbrev pub drive_failures : DriveView → Failures
drive_failures d = d.failures

abbrev pub drive_view : {D : Type 0} → (D → List (List ℕ)) → (D → Bool) → (D → Failures) → D → DriveView
drive_view units lost failures drive = record { units = units drive; lost = lost drive; failures = failures drive }

-- the parts of an array: its groups, with its sizes, who owns which extent, and the drives
pub record PartsView : Type 0 where
  pub groups : Groups
  pub owners : Owners
  pub drives : List DriveView

abbrev pub view_of : {D : Type 0} → (D → List (List ℕ)) → (D → Bool) → (D → Failures) → Parts D → PartsView
view_of units lost failures parts = record {
  groups = parts.groups;
  owners = parts.extents;
  drives = map (drive_view units lost failures) parts.drives.items;
}

-- what the drives hold
abbrev pub drive_cells : PartsView → Cells
drive_cells v = cells drive_units drive_lost v.drives

-- which numbers are of a lost drive or of none
abbrev pub lost_of : PartsView → ℕ → Bool
lost_of v = missing_of drive_lost v.drives

-- the failures of each drive, by number
abbrev pub failed_of : PartsView → ℕ → Failures
failed_of v = failures_by_drive drive_failures v.drives

-- the drives show these units
abbrev pub Shows : PartsView → (ℕ → Option Stored) → Type 0
Shows v units = ShowsUnits v.groups (drive_cells v) units

-- the unit of a slot is gone
abbrev pub IsLost : PartsView → ℕ → Type 0
IsLost v slot = IsGone v.groups (lost_of v) slot

-- how all drives fare
abbrev pub DrivesFare : PartsView → PartsView → Type 0
DrivesFare a b = AllFare drive_lost drive_failures a.drives b.drives

-- nothing but the drives changed
pub record SameTables (a b : PartsView) : Type 0 where
  pub groups : b.groups ≡ a.groups
  pub owners : b.owners ≡ a.owners

-- the bytes of a slot's unit, where it exists
abbrev pub bytes_at : PartsView → ℕ → Option (List ℕ)
bytes_at v slot = unit_of v.groups (drive_cells v) slot

-- where the drives showed units, the unit of each slot that exists afterwards is what it was, byte for byte
abbrev pub KeepsBytes : PartsView → PartsView → Type 0
KeepsBytes a b = (units : ℕ → Option Stored) → Shows a units → (slot : ℕ) (bytes : List ℕ) → bytes_at b slot ≡ Some bytes → bytes_at a slot ≡ Some bytes

-- the same of every slot but one
abbrev pub KeepsOtherBytes : PartsView → PartsView → ℕ → Type 0
KeepsOtherBytes a b slot =
    (units : ℕ → Option Stored) → Shows a units → (other : ℕ) (bytes : List ℕ) → other ≢ slot → bytes_at b other ≡ Some bytes → bytes_at a other ≡ Some bytes

-- drives may have been lost, and nothing else happened
pub record Loses (a b : PartsView) : Type 0 where
  pub bytes : KeepsBytes a b
  pub fares : DrivesFare a b
  pub shows : (units : ℕ → Option Stored) → Shows a units → Shows b units
  pub rest : SameTables a b

-- the refusal names the slot, whose unit is gone; drives may have been lost
pub record FoundGone (a b : PartsView) (slot : ℕ) (refusal : Refusal) : Type 0 where
  pub loses : Loses a b
  pub reported : refusal ≡ Gone slot
  pub gone : IsLost b slot

-- the slot's unit was written, its header in the layout that is written
pub record WasPut (a b : PartsView) (slot : ℕ) (u : Stored) : Type 0 where
  pub others : KeepsOtherBytes a b slot
  pub written : (bytes : List ℕ) → bytes_at b slot ≡ Some bytes → take HEADER_BYTES bytes ≡ header_bytes u.header
  pub fares : DrivesFare a b
  pub there : IsLost b slot → ⊥
  pub shows : (units : ℕ → Option Stored) → Shows a units → Shows b (put units slot (Some u))
  pub rest : SameTables a b

-- a slot's unit was read, and written to a slot under another header, whose bytes are those of the layout that is written
pub record WasCarried (a b : PartsView) (from to : ℕ) (header : Header) : Type 0 where
  pub others : KeepsOtherBytes a b to
  pub written : (bytes : List ℕ) → bytes_at b to ≡ Some bytes → take HEADER_BYTES bytes ≡ header_bytes header
  pub fares : DrivesFare a b
  pub source : IsLost a from → ⊥
  pub target : IsLost b to → ⊥
  pub shows : (units : ℕ → Option Stored) → Shows a units → (u : Stored) × (units from ≡ Some u) × Shows b (put units to (Some (record u { header = header })))
  pub rest : SameTables a b

-- the unit of a content that was committed with a record, given how many bytes a payload has
abbrev pub placed_unit : Record → ℕ → Content → Stored
placed_unit r size content = record { header = header_for r content; payload = bytes_of size content }

-- a slot's unit was read, and what it holds, of this kind, was written to a slot as the unit that `made` says
pub record WasCopiedAs (made : ℕ → Content → Stored) (a b : PartsView) (from to : ℕ) (reported : Kind) : Type 0 where
  pub others : KeepsOtherBytes a b to
  pub written : (bytes : List ℕ) → bytes_at b to ≡ Some bytes → take HEADER_BYTES bytes ≡ header_bytes (made a.groups.payload (content_under reported [])).header
  pub fares : DrivesFare a b
  pub source : IsLost a from → ⊥
  pub target : IsLost b to → ⊥
  pub shows : (units : ℕ → Option Stored) → Shows a units
      → (u : Stored) × (units from ≡ Some u) × (reported ≡ kind_in u.header) × Shows b (put units to (Some (made a.groups.payload (content_in u))))
  pub rest : SameTables a b

-- it waits there, or lies there under the record of its commit
abbrev pub WasCopied : PartsView → PartsView → ℕ → ℕ → Kind → Type 0
WasCopied a b from to reported = WasCopiedAs waiting_unit a b from to reported

abbrev pub WasMoved : Record → PartsView → PartsView → ℕ → ℕ → Kind → Type 0
WasMoved r a b from to reported = WasCopiedAs (placed_unit r) a b from to reported

-- it wasn't: the first slot is gone, or it wasn't and the second is
abbrev pub WasNotCarried : PartsView → PartsView → ℕ → ℕ → Refusal → Type 0
WasNotCarried a b from to refusal = FoundGone a b from refusal ⊎ ((IsLost a from → ⊥) × FoundGone a b to refusal)

-- the slot's unit was read, and it holds this
pub record WasRead (a b : PartsView) (slot : ℕ) (content : Content) : Type 0 where
  pub loses : Loses a b
  pub there : IsLost b slot → ⊥
  pub unit : (units : ℕ → Option Stored) → Shows a units → (u : Stored) × (units slot ≡ Some u) × (content ≡ content_in u)

-- what a sight of a record's place says, given the payload that was read
abbrev pub seen_of : Sight → List ℕ → Seen
seen_of (sight.Here reported) payload = Data (content_under reported payload)
seen_of (sight.Stale found) payload = Stale found

-- what lies at a record's place was seen: the unit that is there says so
pub record SawUnit (a b : PartsView) (r : Record) (seen : Seen) : Type 0 where
  pub loses : Loses a b
  pub there : IsLost b r.place → ⊥
  pub unit : (units : ℕ → Option Stored) → Shows a units → (u : Stored) × (units r.place ≡ Some u) × IsSeen (Some u) r seen

-- a group was made under a number: the tables have it and agree, no member's drive is lost, and its slots are blank
pub record Entered (a : PartsView) (g : ℕ) (class : Class) (members : List Member) (b : PartsView) : Type 0 where
  pub others : (units : ℕ → Option Stored) → Shows a units → (slot : ℕ) (bytes : List ℕ) → slot / 128 ≢ g → bytes_at b slot ≡ Some bytes → bytes_at a slot ≡ Some bytes
  pub fares : DrivesFare a b
  pub present : ArePresent (lost_of b) members
  pub shows : (units : ℕ → Option Stored) → Shows a units
      → Shows b (wiped units a.groups.payload g (slot_count class (length members) a.groups.segments))
  pub groups : b.groups ≡ with_group a.groups g (Some (record { class = class; members = members }))
  pub owners : b.owners ≡ with_owners a.owners members (Some g)
  pub agree : Agree b.groups b.owners

-- it wasn't: the refusal names the first member's drive that is lost, and drives may have been lost
pub record FoundLost (a : PartsView) (members : List Member) (b : PartsView) (refusal : Refusal) : Type 0 where
  pub loses : Loses a b
  pub reported : ReportsLost (lost_of b) members refusal

-- a drive was added, which is lost or not and has these failures: it has the next number, and its extents are free
pub record WasAdded (a : PartsView) (lost : Bool) (failures : Failures) (b : PartsView) : Type 0 where
  pub bytes : KeepsBytes a b
  pub many : length b.drives ≡ length a.drives + 1
  pub lost_are : (d : ℕ) → lost_of b d ≡ put (lost_of a) (length a.drives) lost d
  pub failures_are : (d : ℕ) → failed_of b d ≡ put (failed_of a) (length a.drives) failures d
  pub shows : (units : ℕ → Option Stored) → Shows a units → Shows b units
  pub groups : b.groups ≡ a.groups
  pub owners : b.owners ≡ with_drive a.owners

-- a group's member of this number was moved onto another extent, whose drive isn't lost: the tables say so and agree, each of
-- its units could be had, and the drives show the same units of slots
pub record Shifted (a : PartsView) (g k : ℕ) (to : Member) (b : PartsView) : Type 0 where
  pub bytes : KeepsBytes a b
  pub fares : DrivesFare a b
  pub had : IsBeyondOf a.groups (lost_of a) g k → ⊥
  pub present : lost_of b to.drive ≡ false
  pub shows : (units : ℕ → Option Stored) → Shows a units → Shows b units
  pub groups : IsSwap a.groups b.groups g k to
  pub owners : IsMove a.groups a.owners b.owners g k to
  pub agree : Agree b.groups b.owners

-- the refusal says why a member isn't moved
abbrev pub ReportsUnmoved : PartsView → ℕ → ℕ → Member → Refusal → Type 0
ReportsUnmoved b g k to refusal = IsWhyUnmoved b.groups (lost_of b) g k to refusal

-- it wasn't: drives may have been lost, and the refusal says why
pub record NotShifted (a : PartsView) (g k : ℕ) (to : Member) (b : PartsView) (refusal : Refusal) : Type 0 where
  pub loses : Loses a b
  pub reported : ReportsUnmoved b g k to refusal

-- a group was dissolved: its extents are free, its slots have no unit, and drives are as they were
pub record WasTaken (a : PartsView) (g : ℕ) (b : PartsView) : Type 0 where
  pub groups : b.groups ≡ with_group a.groups g None
  pub owners : b.owners ≡ with_owners a.owners (members_of a.groups g) None
  pub drives : b.drives ≡ a.drives
  pub agree : Agree b.groups b.owners
  pub shows : (units : ℕ → Option Stored) → Shows a units → Shows b (without_group units g)
