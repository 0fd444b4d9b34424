-- The claims of an array that is taken apart, or put together from parts and a map.
use Rattle.std.specs.Prelude.{◌≡◌, ℕ, ◌+◌, ◌^◌, ◌<◌, ◌≤◌, ◌==◌, if◌then◌else◌, List, length, count_by, false, slice_index, slice_index_or, vec_len, vec_capacity, Contains, Option, Some, None}
use Rattle.map_join.specs.declared.records.Record.{Record}
use Rattle.map_join.specs.Record.{record_of}
use Rattle.map_join.specs.Maps.{IsListOf}
use Rattle.extent_groups.specs.Groups.{Groups}
use Rattle.flat_machine.specs.Flat.{Flat, Worker, Ticket}
use Rattle.flat_machine.specs.Restarted.{restarted}
use Rattle.slot_tables.specs.Views.{Kept, Nothing, Newest, ArrayView, WorldView, is_kept, kept_at}
use Rattle.slot_tables.specs.Represents.{Represents}
use Rattle.slot_tables.specs.Kept.{HavePlaces}
use Rattle.slot_tables.specs.declared.slot_state.SlotState.TheVariants as state
use Rattle.slot_tables.specs.declared.ready.NotAdopted.{NotAdopted}
use Rattle.slot_tables.specs.declared.ready.NotAdopted.TheVariants.{Memory, NoClaim}
use Rattle.slot_tables.specs.declared.ready.Ready.{Ready}
use Rattle.slot_tables.specs.declared.ready.Room.{Room}

-- how many of some claims are of a slot
abbrev pub how_many : {C : Type 0} → (C → ℕ) → List C → ℕ → ℕ
how_many names claims slot = count_by (λ c. names c == slot) claims

-- how many claims an array has of a slot of which this is kept
abbrev pub claims_in : Kept → ℕ
claims_in kept = if is_kept kept then 1 else 0

-- the claims are those that the array had, one of each slot that it kept
abbrev pub AreClaimsOf : {C : Type 0} → (C → ℕ) → ArrayView → List C → Type 0
AreClaimsOf names a claims = (slot : ℕ) → how_many names claims slot ≡ claims_in (kept_at a slot)

-- each of the claims is in the array or left over
abbrev pub AreShared : {C : Type 0} → (C → ℕ) → List C → ArrayView → List C → Type 0
AreShared names claims a left = (slot : ℕ) → how_many names claims slot ≡ claims_in (kept_at a slot) + how_many names left slot

-- the slot is the lowest place of a map of which there is no claim
pub record IsUnclaimed {C : Type 0} (names : C → ℕ) (claims : List C) (M : ℕ → ℕ) (slot : ℕ) : Type 0 where
  pub block : ℕ
  pub there : 0 < M block
  pub place : (record_of block (M block)).place ≡ slot
  pub none : how_many names claims slot ≡ 0
  pub lowest : (b : ℕ) → 0 < M b → (record_of b (M b)).place < slot → 0 < how_many names claims (record_of b (M b)).place

-- the block whose place the slot is in a list of records; none if it is no record's place
abbrev pub IsExpected : List Record → ℕ → Option ℕ → Type 0
IsExpected records slot None = (r : Record) → Contains records r → r.place ≡ slot → ⊥
IsExpected records slot (Some b) = (r : Record) × Contains records r × (r.block ≡ b) × (r.place ≡ slot)

-- the block that a table has for a slot: none past its end
abbrev pub expected_at : List (Option ℕ) → ℕ → Option ℕ
expected_at expected slot = slice_index_or expected slot None

-- each record's place is one of the first `slots` slots
abbrev pub LieBelow : ℕ → List Record → Type 0
LieBelow slots records = (r : Record) → Contains records r → r.place < slots

-- a table for the first `slots` slots; no slot past them is wanted
pub record AreExpected (records : List Record) (slots : ℕ) (expected : List (Option ℕ)) : Type 0 where
  pub many : length expected ≡ slots
  pub each : (slot : ℕ) → IsExpected records slot (expected_at expected slot)

-- what is kept of a slot that a block wants
abbrev pub kept_for : Option ℕ → Kept
kept_for None = Nothing
kept_for (Some b) = Newest b

-- each slot that is wanted has a claim; the lowest slot that has none
abbrev pub IsClaimed : {C : Type 0} → (C → ℕ) → List C → List (Option ℕ) → ℕ → Type 0
IsClaimed names claims expected slot = (b : ℕ) → expected_at expected slot ≡ Some b → 0 < how_many names claims slot

pub record IsLowestUnclaimed {C : Type 0} (names : C → ℕ) (claims : List C) (expected : List (Option ℕ)) (slot : ℕ) : Type 0 where
  pub block : ℕ
  pub needs : expected_at expected slot ≡ Some block
  pub none : how_many names claims slot ≡ 0
  pub lowest : (s : ℕ) → s < slot → IsClaimed names claims expected s

-- the claims are those of the map's places, one of each
pub record AreOfPlaces {C : Type 0} (names : C → ℕ) (M : ℕ → ℕ) (claims : List C) : Type 0 where
  pub one : (b : ℕ) → 0 < M b → how_many names claims (record_of b (M b)).place ≡ 1
  pub only : (slot : ℕ) → 0 < how_many names claims slot → (b : ℕ) × (0 < M b) × ((record_of b (M b)).place ≡ slot)

-- what a map may have of a block: nothing, or the key of a record
pub record IsKey (key : ℕ) : Type 0 where
  pub least : 0 < key → 2 ^ 32 ≤ key
  pub most : key < 2 ^ 64

-- the keys of the first `blocks` blocks in a map
pub record AreKeys (blocks : ℕ) (M : ℕ → ℕ) (keys : List ℕ) : Type 0 where
  pub many : length keys ≡ blocks
  pub same : (b : ℕ) → b < blocks → slice_index keys b ≡ M b
  pub reported : (b : ℕ) → b < blocks → IsKey (M b)

-- `slots` places that are free, and room for `count` claims
pub record HasRoom {C : Type 0} (slots count : ℕ) (room : Room C) : Type 0 where
  pub none : vec_len room.others ≡ 0
  pub others : count ≤ vec_capacity room.others
  pub places : vec_len room.places ≡ slots
  pub free : (s : ℕ) → slice_index_or room.places.items s state.Free ≡ state.Free

-- why no array was put together
abbrev pub IsNotAdopted : {C : Type 0} → (C → ℕ) → List C → (ℕ → ℕ) → NotAdopted → Type 0
IsNotAdopted names claims M Memory = Unit {0}
IsNotAdopted names claims M (NoClaim slot) = IsUnclaimed names claims M slot

-- why an array wasn't restarted with a map: out of memory, or it had no claim of a place
abbrev pub IsNotRestarted : {C : Type 0} → (C → ℕ) → ArrayView → (ℕ → ℕ) → NotAdopted → Type 0
IsNotRestarted names a M Memory = Unit {0}
IsNotRestarted {C} names a M (NoClaim slot) = (claims : List C) × AreClaimsOf names a claims × IsUnclaimed names claims M slot

-- all is ready for an array of these groups and this map: its log, what each slot is wanted for, of which there are claims, its
-- keys, places that are free for the slots of its groups, and room for the claims that are left over. The tables of wanted blocks
-- and of places are as short as the groups allow.
pub record AreReady {C : Type 0} (names : C → ℕ) (groups : Groups) (M : ℕ → ℕ) (claims : List C) (ready : Ready C) : Type 0 where
  pub log : IsListOf M ready.log.items
  pub expected : AreExpected ready.log.items (vec_len ready.room.places) ready.expected.items
  pub claimed : (slot : ℕ) → IsClaimed names claims ready.expected.items slot
  pub keys : AreKeys groups.blocks M ready.keys.items
  pub room : HasRoom (vec_len ready.room.places) (length claims) ready.room
  pub places : HavePlaces groups (vec_len ready.room.places)
  pub fewest : (n : ℕ) → HavePlaces groups n → vec_len ready.room.places ≤ n

-- no worker holds a slot, or has a ticket of one
abbrev pub IsWorkerFree : Flat → Type 0
IsWorkerFree F = (s w : ℕ) → (F.held s (Worker w) ≡ false) × (F.held s (Ticket w) ≡ false)

-- the world represents the state F restarted with this map
pub record WasRestarted (F : Flat) (M : ℕ → ℕ) (w : WorldView) : Type 0 where
  pub log : IsListOf M w.array.log
  pub matches : Represents w (restarted F M w.array.log)
