-- Writing while there is room at all: the oldest block leaves the mirrored level into a hole where the log goes on nowhere.
use Rattle.std.specs.Prelude.{◌≡◌, ◌≢◌, ◌⊎◌, ℕ, ◌<◌, Bool, true, List, length, Contains, Option, Some, None}
use Rattle.std.specs.List.{AllPairs}
use Rattle.extent_groups.specs.declared.class.Class.TheVariants.{Mirrored, Parity}
use Rattle.extent_groups.specs.Stores.{IsSlotOf}
use Rattle.map_join.specs.Maps.{IsMapOf}
use Rattle.map_join.specs.Record.{record_at}
use Rattle.map_join.specs.declared.records.Record.{Record}
use Rattle.extent_groups.specs.Groups.{Groups}
use Rattle.extent_groups.specs.Missing.{IsGone}
use Rattle.unit_store.specs.Views.{IsLost}
use Rattle.slot_tables.specs.Views.{WorldView}
use Rattle.flat_machine.specs.Cases.{IsGoneIn}
use Rattle.flat_machine.specs.Flat.{Content, Holder, Block, IsUnheld}
use Rattle.migrator.specs.Ages.{IsOldest}
use Rattle.migrator.specs.Slots.{IsMirrored}
use Rattle.migrator.specs.First.{IsFirst, IsFirstAppend, IsFreeParity}
use Rattle.tiered_array.specs.Tiered.{Tiered}
use Rattle.tiered_array.specs.Placing.{Fresh, Again}
use Rattle.tiered_array.specs.Steps.{IsFreeMirror, Stays, AppendsAt, MovesTo, WritesAt, WritesIn, PutStops}
use Rattle.tiered_array.specs.declared.outcome.Outcome.{Outcome}
use Rattle.tiered_array.specs.declared.outcome.Outcome.TheVariants.{Refused, NoRoom, Nothing}

-- the lowest of the numbers that have the property, of those that also have the other where there are any
abbrev pub IsFirstOf : (P Q : ℕ → Type 0) → Option ℕ → Type 0
IsFirstOf P Q None = IsFirst P None
IsFirstOf P Q (Some n) = IsFirst Q (Some n) ⊎ (IsFirst Q None × IsFirst P (Some n))

-- a slot that nobody holds, and whose unit can be read and written by the drives that are there
abbrev pub IsOpen : Tiered → ℕ → Type 0
IsOpen T slot = IsUnheld T.flat slot × (IsGoneIn T.flat slot → ⊥)

-- the first open slot where the log goes on
abbrev pub IsNextOpen : Tiered → (ℕ → ℕ) → Option ℕ → Type 0
IsNextOpen T keys slot = IsFirstAppend T.end T.flat.groups keys (IsOpen T) slot

-- a free slot of a parity group, and an open one
abbrev pub IsHole : Tiered → ℕ → Type 0
IsHole T slot = IsFreeParity T.flat.groups (IsUnheld T.flat) slot

abbrev pub IsOpenHole : Tiered → ℕ → Type 0
IsOpenHole T slot = IsFreeParity T.flat.groups (IsOpen T) slot

-- an open slot of a mirrored group
abbrev pub IsOpenMirror : Tiered → ℕ → Type 0
IsOpenMirror T slot = IsSlotOf Mirrored T.flat.groups slot × IsOpen T slot

-- the unit at the block's newest place can be read, by the drives that are there
abbrev pub IsThere : Groups → (ℕ → Bool) → (ℕ → ℕ) → ℕ → Type 0
IsThere groups lost keys b = (r : Record) × (record_at b (keys b) ≡ Some r) × (IsGone groups lost r.place → ⊥)

-- the block's newest place is in a mirrored group, and can be read
abbrev pub IsReadable : Groups → (ℕ → Bool) → (ℕ → ℕ) → ℕ → Type 0
IsReadable groups lost keys b = IsMirrored groups keys b × IsThere groups lost keys b

-- of the blocks in mirrored groups the one that was written longest ago: of those that can be read where there are any
abbrev pub IsDueOf : List ℕ → Groups → (ℕ → Bool) → (ℕ → ℕ) → Option ℕ → Type 0
IsDueOf order groups lost keys None = IsOldest order (IsMirrored groups keys) None
IsDueOf order groups lost keys (Some b) =
    IsOldest order (IsReadable groups lost keys) (Some b)
    ⊎ (IsOldest order (IsReadable groups lost keys) None × IsOldest order (IsMirrored groups keys) (Some b))

-- the block that makes room
abbrev pub IsDue : Tiered → (ℕ → ℕ) → Option ℕ → Type 0
IsDue T keys chosen = IsDueOf T.order T.flat.groups T.flat.lost keys chosen

-- a block is copied into the hole, and the log's end stays; `NoRoom` where there is none
abbrev pub GoesAside : Tiered → ℕ → ℕ → Option ℕ → Outcome → Tiered → Type 0
GoesAside T w b None outcome U = Stays T NoRoom outcome U
GoesAside T w b (Some s) outcome U = MovesTo T w b s outcome U

-- the log goes on nowhere, and the block goes into the lowest open hole, or the lowest hole where none is open
pub record Squeezes (T : Tiered) (keys : ℕ → ℕ) (w b : ℕ) (outcome : Outcome) (U : Tiered) : Type 0 where
  pub nowhere : IsNextOpen T keys None
  pub hole : Option ℕ
  pub first : IsFirstOf (IsHole T) (IsOpenHole T) hole
  pub done : GoesAside T w b hole outcome U

-- the block goes to the first open slot where the log goes on
pub record AppendsToLog (T : Tiered) (keys : ℕ → ℕ) (w b : ℕ) (outcome : Outcome) (U : Tiered) : Type 0 where
  pub slot : ℕ
  pub first : IsNextOpen T keys (Some slot)
  pub done : AppendsAt T w b slot outcome U

-- the block that is due leaves the mirrored level; `Nothing` where there is none
abbrev pub GoesOut : Tiered → (ℕ → ℕ) → ℕ → Option ℕ → Outcome → Tiered → Type 0
GoesOut T keys w None outcome U = Stays T Nothing outcome U
GoesOut T keys w (Some b) outcome U = AppendsToLog T keys w b outcome U ⊎ Squeezes T keys w b outcome U

-- making room: of the blocks in mirrored groups that can be read, the one that was written longest ago leaves them; where none can
-- be read, the oldest of all is tried
pub record RoomCase (T : Tiered) (w : ℕ) (outcome : Outcome) (U : Tiered) : Type 0 where
  pub keys : ℕ → ℕ
  pub map_of : IsMapOf T.flat.emitted keys
  pub chosen : Option ℕ
  pub due : IsDue T keys chosen
  pub done : GoesOut T keys w chosen outcome U

-- into the lowest open slot of mirrored groups, or the lowest free one where none is open; `NoRoom` where none is free
pub record WritesAgain (V : Tiered) (w b : ℕ) (x : Content) (outcome : Outcome) (U : Tiered) : Type 0 where
  pub slot : Option ℕ
  pub first : IsFirstOf (IsFreeMirror V.flat) (IsOpenMirror V) slot
  pub done : WritesIn V w b x slot outcome U

-- what a write does after one block was to make room: where that was refused this is its outcome, and else it looks for a slot again
abbrev pub AfterRoom : Tiered → ℕ → ℕ → Content → Outcome → Outcome → Tiered → Type 0
AfterRoom V w b x (Refused k) outcome U = Stays V (Refused k) outcome U
AfterRoom V w b x _ outcome U = WritesAgain V w b x outcome U

pub record WritesAfter (T : Tiered) (w b : ℕ) (x : Content) (outcome : Outcome) (U : Tiered) : Type 0 where
  pub moved : Outcome
  pub between : Tiered
  pub out : RoomCase T w moved between
  pub done : AfterRoom between w b x moved outcome U

abbrev pub WritesAlways : Tiered → ℕ → ℕ → Content → Option ℕ → Outcome → Tiered → Type 0
WritesAlways T w b x None outcome U = WritesAfter T w b x outcome U
WritesAlways T w b x (Some s) outcome U = WritesAt T w b x s outcome U

-- a write while there is room: into the lowest open slot of mirrored groups, after one block made room where there is none
pub record AlwaysCase (T : Tiered) (w b : ℕ) (x : Content) (outcome : Outcome) (U : Tiered) : Type 0 where
  pub slot : Option ℕ
  pub first : IsFirst (IsOpenMirror T) slot
  pub done : WritesAlways T w b x slot outcome U

-- where the block that makes room goes: where the log goes on, or else into a hole
abbrev pub IsWayOut : Tiered → (ℕ → ℕ) → ℕ → Type 0
IsWayOut T keys s = IsNextOpen T keys (Some s) ⊎ (IsNextOpen T keys None × IsFirstOf (IsHole T) (IsOpenHole T) (Some s))

-- an allocation failed after the block that makes room was put into its slot
pub record RoomStops (T : Tiered) (w : ℕ) (U : Tiered) : Type 0 where
  pub keys : ℕ → ℕ
  pub map_of : IsMapOf T.flat.emitted keys
  pub block : ℕ
  pub due : IsDue T keys (Some block)
  pub slot : ℕ
  pub way : IsWayOut T keys slot
  pub stops : PutStops T w Again block slot U

-- one block was to make room, and an allocation failed after the content was put into a slot of mirrored groups
pub record StopsAfter (T : Tiered) (w b : ℕ) (x : Content) (U : Tiered) : Type 0 where
  pub moved : Outcome
  pub between : Tiered
  pub out : RoomCase T w moved between
  pub slot : ℕ
  pub first : IsFirstOf (IsFreeMirror between.flat) (IsOpenMirror between) (Some slot)
  pub stops : PutStops between w (Fresh x) b slot U

abbrev pub AlwaysStop : Tiered → ℕ → ℕ → Content → Option ℕ → Tiered → Type 0
AlwaysStop T w b x None U = RoomStops T w U ⊎ StopsAfter T w b x U
AlwaysStop T w b x (Some s) U = PutStops T w (Fresh x) b s U

-- an allocation of such a write failed
pub record AlwaysStops (T : Tiered) (w b : ℕ) (x : Content) (U : Tiered) : Type 0 where
  pub slot : Option ℕ
  pub first : IsFirst (IsOpenMirror T) slot
  pub stops : AlwaysStop T w b x slot U

-- no block is in a mirrored group, or no slot of a parity group is free
abbrev pub IsNowhere : Tiered → (ℕ → ℕ) → Type 0
IsNowhere T keys = IsOldest T.order (IsMirrored T.flat.groups keys) None ⊎ ((s : ℕ) → IsHole T s → ⊥)

-- there is no room for a write: no mirrored slot is free, and nothing can leave, or there is nowhere to go
pub record IsFull (T : Tiered) : Type 0 where
  pub mirrors : (s : ℕ) → IsFreeMirror T.flat s → ⊥
  pub keys : ℕ → ℕ
  pub map_of : IsMapOf T.flat.emitted keys
  pub nowhere : IsNowhere T keys

-- more slots than the array has blocks, all of made groups, one of them mirrored, and none held but by blocks
pub record HasSpareSlots (T : Tiered) (slots : List ℕ) : Type 0 where
  pub apart : AllPairs (λ s u. s ≢ u) slots
  pub made : (s : ℕ) → Contains slots s → IsSlotOf Mirrored T.flat.groups s ⊎ IsSlotOf Parity T.flat.groups s
  pub mirror : (s : ℕ) × Contains slots s × IsSlotOf Mirrored T.flat.groups s
  pub blocks_alone : (s : ℕ) (k : Holder) → Contains slots s → T.flat.held s k ≡ true → (b : ℕ) × (k ≡ Block b)
  pub more : T.flat.groups.blocks < length slots

-- no candidate is left that can be read and written: no mirrored slot is open, and either no block in a mirrored group can be read, or
-- no slot of a parity group is open
pub record IsStuck (T : Tiered) : Type 0 where
  pub mirrors : (s : ℕ) → IsOpenMirror T s → ⊥
  pub keys : ℕ → ℕ
  pub map_of : IsMapOf T.flat.emitted keys
  pub nowhere : IsOldest T.order (IsReadable T.flat.groups T.flat.lost keys) None ⊎ ((s : ℕ) → IsOpenHole T s → ⊥)

-- no slot is gone, by the drives that are there
abbrev pub HasNoneGone : Tiered → Type 0
HasNoneGone T = (s : ℕ) → IsGoneIn T.flat s → ⊥

-- each slot that is gone afterwards was gone before
abbrev pub LosesNoSlot : WorldView → WorldView → Type 0
LosesNoSlot u v = (s : ℕ) → IsLost v.array.parts s → IsLost u.array.parts s

-- one mirrored slot is kept open: `Nothing` where one is, and else room is made
abbrev pub Spares : Tiered → ℕ → Option ℕ → Outcome → Tiered → Type 0
Spares T w None outcome U = RoomCase T w outcome U
Spares T w (Some s) outcome U = Stays T Nothing outcome U

pub record SpareCase (T : Tiered) (w : ℕ) (outcome : Outcome) (U : Tiered) : Type 0 where
  pub slot : Option ℕ
  pub first : IsFirst (IsOpenMirror T) slot
  pub done : Spares T w slot outcome U

-- an allocation failed while room was made, as no mirrored slot was open
pub record SpareStops (T : Tiered) (w : ℕ) (U : Tiered) : Type 0 where
  pub first : IsFirst (IsOpenMirror T) None
  pub stops : RoomStops T w U
