-- What is true of a flat state after any steps, stated over the flat state alone, with the map of its log.
use Rattle.std.specs.Prelude.{◌≡◌, ◌≢◌, ◌⊎◌, ℕ, ◌+◌, ◌/◌, ◌<◌, ◌≤◌, Bool, true, is_some, List, [], ◌∷◌, ◌++◌, length, Contains, Option, Some, None}
use Rattle.map_join.specs.declared.records.Record.{Record}
use Rattle.map_join.specs.Record.{key_of, record_of, IsRecord, stamp, stamp_of, stamp_in}
use Rattle.map_join.specs.Maps.{IsMapOf}
use Rattle.extents.specs.Header.{record_in}
use Rattle.extent_groups.specs.declared.class.Class.{Class}
use Rattle.extent_groups.specs.declared.class.Class.TheVariants.{Mirrored}
use Rattle.extent_groups.specs.Groups.{Groups, group_at}
use Rattle.flat_machine.specs.Groups.{AreSizes, GroupsStand}
use Rattle.flat_machine.specs.Flat.{Flat, Content, IsSized, Write, Holder, Ticket, Block, Shut, Waiting, Fresh, Moved, content_of, Stored, content_in, waiting_unit, class_of, last_write, IsNewest, IsArrays, HeldOnce}
use Rattle.flat_machine.specs.Steps.{FlatStep, Claim, Release, Fill, Copy, Commit, Discard, Read, ReadAt, Make, Unmake, MoveExtent, AddDrive, Lose}
use Rattle.flat_machine.specs.Cases.{last_hop, longest_log}

-- sizes, a number of drives and a number of emitted records that an array can have
pub record AreLimits (z : Groups) (drives records : ℕ) : Type 0 where
  pub sizes : AreSizes z
  pub least : 3 ≤ drives
  pub most : drives ≤ 16
  pub log : records ≤ longest_log

-- a later record of a block comes next after its newest: the next version with hop 0, or the same version one hop on
abbrev pub ComesNext : Record → Record → Type 0
ComesNext n r = ((r.version ≡ n.version + 1) × (r.hop ≡ 0)) ⊎ ((r.version ≡ n.version) × (r.hop ≡ n.hop + 1))

-- each record of a log comes next after those before it; a block's first may be any
abbrev pub IsChain : List Record → List Record → Type 0
IsChain before [] = Unit {0}
IsChain before (r ∷ log) = ((n : Record) → IsNewest before r.block (Some n) → ComesNext n r) × IsChain (before ++ r ∷ []) log

-- an acknowledged write: a version above 0, and a content that fits the units
pub record IsWrite (payload : ℕ) (w : Write) : Type 0 where
  pub version : 0 < w.version
  pub sized : IsSized payload w.content

-- each later write of a block has the version after that of the block's last write before it; a block's first may be any
abbrev pub IsWriteChain : List Write → List Write → Type 0
IsWriteChain before [] = Unit {0}
IsWriteChain before (w ∷ writes) =
    ((x : Write) → last_write before w.block ≡ Some x → w.version ≡ x.version + 1) × IsWriteChain (before ++ w ∷ []) writes

-- whom the array itself holds a slot for: at most one; a ticket exactly where something waits; a block exactly of its newest
-- place; and a dissolved group's number only a slot of that group. Nothing is said of workers.
pub record HoldersStand (groups : Groups) (keys : ℕ → ℕ) (s : ℕ) (held : Holder → Bool) (ticket : Option Waiting) : Type 0 where
  pub once : (j k : Holder) → IsArrays j → IsArrays k → held j ≡ true → held k ≡ true → j ≡ k
  pub inside : (k : Holder) → IsArrays k → held k ≡ true → s < 65536
  pub waits : (c : Waiting) → ticket ≡ Some c → (w : ℕ) × (held (Ticket w) ≡ true)
  pub waiting : (w : ℕ) → held (Ticket w) ≡ true → ticket ≢ None
  pub block : (b : ℕ) → held (Block b) ≡ true → (0 < keys b) × ((record_of b (keys b)).place ≡ s)
  pub shut : (g : ℕ) → held (Shut g) ≡ true → (g ≡ s / 128) × (group_at groups g ≡ None)

-- a record in the header of a slot's unit is of that very slot: the newest of its block, or one of a stamp below the newest's
pub record IsHeaderOf (keys : ℕ → ℕ) (s : ℕ) (r : Record) : Type 0 where
  pub ranges : IsRecord r
  pub place : r.place ≡ s
  pub newest : (key_of r ≡ keys r.block) ⊎ (stamp_of r < stamp_in (keys r.block))

-- a write has the block and the version of a record
abbrev pub IsWriteOf : Record → Write → Type 0
IsWriteOf r w = (w.block ≡ r.block) × (w.version ≡ r.version)

-- what a waiting copy rests on: its block was written, it can move one hop on, its stamp is at most the newest's, and its
-- version and content are those of an acknowledged write
pub record IsCopy (writes : List Write) (b v h : ℕ) (x : Content) (key : ℕ) : Type 0 where
  pub written : 0 < key
  pub hop : h < last_hop
  pub most : stamp v h ≤ stamp_in key
  pub write : Contains writes (record { block = b; version = v; content = x })

-- what waits at a slot of this class: a fresh content only where the class is mirrored, or a copy
abbrev pub WaitingMatches : Option Class → List Write → (ℕ → ℕ) → Waiting → Type 0
WaitingMatches class writes keys (Fresh x) = class ≡ Some Mirrored
WaitingMatches class writes keys (Moved b v h x) = IsCopy writes b v h x (keys b)

-- the unit of one slot: there exactly where the slot is one of a made group, as long as a payload, its header as above; where
-- that is an emitted record, it holds what the acknowledged write of its block and version does; and a ticket's unit has its
-- content under a blank header
pub record UnitMatches (payload : ℕ) (emitted : List Record) (writes : List Write) (keys : ℕ → ℕ) (s : ℕ) (class : Option Class) (ticket : Option Waiting) (unit : Option Stored) : Type 0 where
  pub there : is_some unit ≡ is_some class
  pub sized : (u : Stored) → unit ≡ Some u → length u.payload ≡ payload
  pub header : (u : Stored) (r : Record) → unit ≡ Some u → record_in u.header ≡ Some r → IsHeaderOf keys s r
  pub content : (u : Stored) (r : Record) (w : Write) → unit ≡ Some u → record_in u.header ≡ Some r → Contains emitted r
      → Contains writes w → IsWriteOf r w → content_in u ≡ w.content
  pub blank : (c : Waiting) → ticket ≡ Some c → unit ≡ Some (waiting_unit payload (content_of c))
  pub rests : (c : Waiting) → ticket ≡ Some c → WaitingMatches class writes keys c

-- the unit at a record's place has that record in its header, and this content
pub record IsAt (units : ℕ → Option Stored) (r : Record) (x : Content) : Type 0 where
  pub stored : Stored
  pub there : units r.place ≡ Some stored
  pub header : record_in stored.header ≡ Some r
  pub content : content_in stored ≡ x

-- the block's last write lies at its newest place, under its record, and the block holds that place
pub record IsLastWrite (F : Flat) (b key : ℕ) (w : Write) : Type 0 where
  pub version : w.version ≡ (record_of b key).version
  pub unit : IsAt F.units (record_of b key) w.content
  pub place : F.held (record_of b key).place (Block b) ≡ true

-- a block that has no key was never written, and one that has a key was
abbrev pub BlockMatches : Flat → ℕ → ℕ → Type 0
BlockMatches F b key = (key ≡ 0 → last_write F.writes b ≡ None) × (0 < key → (w : Write) × (last_write F.writes b ≡ Some w) × (IsLastWrite F b key w))

-- what is true of a flat state after any steps, where `keys` is the map of its log
pub record IsHistory (F : Flat) (keys : ℕ → ℕ) : Type 0 where
  -- sizes, drives and groups are within the limits of every array
  pub limits : AreLimits F.groups F.drives (length F.emitted)
  pub groups : GroupsStand F.groups F.drives
  -- the emitted records are of the array's blocks, each comes next after those of its block, and the keys are their map
  pub records : (r : Record) → Contains F.emitted r → IsRecord r
  pub blocks : (r : Record) → Contains F.emitted r → r.block < F.groups.blocks
  pub chain : IsChain [] F.emitted
  pub map : IsMapOf F.emitted keys
  -- the acknowledged writes of a block have one version after another
  pub writes : (w : Write) → Contains F.writes w → IsWrite F.groups.payload w
  pub versions : IsWriteChain [] F.writes
  -- of each slot: its holders, and its unit
  pub holders : (s : ℕ) → HoldersStand F.groups keys s (F.held s) (F.tickets s)
  pub units : (s : ℕ) → UnitMatches F.groups.payload F.emitted F.writes keys s (class_of F s) (F.tickets s) (F.units s)
  -- of each block: its last write, and its newest place
  pub written : (b : ℕ) → BlockMatches F b (keys b)

-- no slot has two holders, workers among them, and each slot that is held is one of the 65,536
pub record AreHeld (F : Flat) : Type 0 where
  pub once : HeldOnce F
  pub inside : (s : ℕ) (k : Holder) → F.held s k ≡ true → s < 65536

-- a step of numbers that there are: slots below 65,536, blocks of the array, and contents that fit its units
abbrev pub IsValidStep : Groups → FlatStep → Type 0
IsValidStep z (Claim w s) = s < 65536
IsValidStep z (Release w s) = Unit {0}
IsValidStep z (Fill w s x) = (s < 65536) × IsSized z.payload x
IsValidStep z (Copy w s b) = (s < 65536) × (b < z.blocks)
IsValidStep z (Commit w s b) = b < z.blocks
IsValidStep z (Discard w s) = Unit {0}
IsValidStep z (Read b) = Unit {0}
IsValidStep z (ReadAt r) = Unit {0}
IsValidStep z (Make class members) = Unit {0}
IsValidStep z (Unmake w g) = Unit {0}
IsValidStep z (MoveExtent g k to) = Unit {0}
IsValidStep z AddDrive = Unit {0}
IsValidStep z (Lose d) = Unit {0}
