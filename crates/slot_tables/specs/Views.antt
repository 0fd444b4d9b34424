-- What contracts see of an array and of a world: plain data, without claims.
use Rattle.std.specs.Prelude.{◌≡◌, ◌≢◌, ℕ, ◌<◌, ◌≤◌, ◌/◌, ◌^◌, Bool, true, false, not, List, [], slice_index, slice_index_or, length, Option, Some, None}
use Rattle.map_join.specs.declared.records.Record.{Record}
use Rattle.map_join.specs.Record.{record_of}
use Rattle.extents.specs.declared.header.Kind.{Kind}
use Rattle.extent_groups.specs.Groups.{Agree, group_at}
use Rattle.extent_groups.specs.Stores.{AreDrives}
use Rattle.unit_store.specs.Views.{PartsView, drive_units}
use Rattle.flat_machine.specs.Groups.{IsEmpty, GroupsStand, class_at}
use Rattle.slot_tables.specs.declared.hand.Hand.{Hand}
use Rattle.slot_tables.specs.declared.hand.Hand.TheVariants.{Empty, Holds, Waits}

-- what the array itself keeps of a slot: nothing, the claim of a ticket with a fresh content of a kind or with a copy of a
-- record's content and its kind, the claim of a block's newest place, or that of a slot of a dissolved group
pub data Kept : Type 0 where
  Nothing : Kept
  Pending : Kind → Kept
  Moving : Record → Kind → Kept
  Newest : ℕ → Kept
  Unmade : Kept

-- the array keeps the slot
abbrev pub is_kept : Kept → Bool
is_kept Nothing = false
is_kept (Pending k) = true
is_kept (Moving r k) = true
is_kept (Newest block) = true
is_kept Unmade = true

-- the block whose newest place the slot is, if any
abbrev pub newest_block_in : Kept → Option ℕ
newest_block_in Nothing = None
newest_block_in (Pending k) = None
newest_block_in (Moving r k) = None
newest_block_in (Newest block) = Some block
newest_block_in Unmade = None

-- a ticket waits at the slot
abbrev pub is_waiting : Kept → Bool
is_waiting Nothing = false
is_waiting (Pending k) = true
is_waiting (Moving r k) = true
is_waiting (Newest block) = false
is_waiting Unmade = false

-- an array: its parts (the groups with its sizes, the owners of the extents, and the drives), its log, the key of each block
-- (0 for none), and what is kept of each slot
pub record ArrayView : Type 0 where
  pub parts : PartsView
  pub log : List Record
  pub keys : List ℕ
  pub kept : List Kept

-- a world: an array and the workers' hands, by slot
pub record WorldView : Type 0 where
  pub array : ArrayView
  pub hands : List Hand

-- the tables at a slot or a block; past their ends there is nothing
abbrev pub kept_at : ArrayView → ℕ → Kept
kept_at a slot = slice_index_or a.kept slot Nothing

abbrev pub key_at : ArrayView → ℕ → ℕ
key_at a block = slice_index a.keys block

abbrev pub hand_at : List Hand → ℕ → Hand
hand_at hands slot = slice_index_or hands slot Empty

-- neither the array nor a worker has the slot
abbrev pub has_no_holder : Kept → Hand → Bool
has_no_holder kept Empty = not (is_kept kept)
has_no_holder kept (Holds w) = false
has_no_holder kept (Waits w) = false

-- the tables have a place for each slot and block
pub record IsRoomy (a : ArrayView) : Type 0 where
  pub kept : length a.kept ≡ 65536
  pub keys : length a.keys ≡ a.parts.groups.blocks

-- what every array keeps: each key is a record's, whose place and no other is kept for that block; what is copied can move on;
-- what is kept is a slot of a group, or of one that was dissolved and isn't made again; groups are well formed, and agree with
-- the owners of the extents; and the drives have the units that the sizes ask
pub record IsWhole (a : ArrayView) : Type 0 where
  pub room : IsRoomy a
  pub blocks : a.parts.groups.blocks ≤ 65536
  pub keys : (b : ℕ) → 0 < key_at a b → 2 ^ 32 ≤ key_at a b
  pub fit : (b : ℕ) → key_at a b < 2 ^ 64
  pub newest : (b : ℕ) → 0 < key_at a b → kept_at a (record_of b (key_at a b)).place ≡ Newest b
  pub only : (s b : ℕ) → kept_at a s ≡ Newest b → (0 < key_at a b) × ((record_of b (key_at a b)).place ≡ s)
  pub moving : (s : ℕ) (r : Record) (k : Kind) → kept_at a s ≡ Moving r k → r.hop < 65535
  pub there : (s : ℕ) → kept_at a s ≢ Nothing → kept_at a s ≢ Unmade → class_at a.parts.groups s ≢ None
  pub unmade : (s : ℕ) → kept_at a s ≡ Unmade → group_at a.parts.groups (s / 128) ≡ None
  pub groups : GroupsStand a.parts.groups (length a.parts.drives)
  pub agree : Agree a.parts.groups a.parts.owners
  pub rows : length a.parts.owners.rows ≡ length a.parts.drives
  pub wide : a.parts.owners.extents ≡ a.parts.groups.extents
  pub drives : AreDrives drive_units a.parts.groups a.parts.drives

-- an array to which nothing has happened
pub record IsNew (a : ArrayView) : Type 0 where
  pub empty : IsEmpty a.parts.groups
  pub agree : Agree a.parts.groups a.parts.owners
  pub rows : length a.parts.owners.rows ≡ length a.parts.drives
  pub wide : a.parts.owners.extents ≡ a.parts.groups.extents
  pub drives : AreDrives drive_units a.parts.groups a.parts.drives
  pub log : a.log ≡ []
  pub keys : (b : ℕ) → key_at a b ≡ 0
  pub kept : (s : ℕ) → kept_at a s ≡ Nothing
  pub room : IsRoomy a

-- the array with other parts
abbrev pub with_parts : ArrayView → PartsView → ArrayView
with_parts a parts = record a { parts = parts }

-- two arrays of the same sizes
pub record SameSizes (a b : ArrayView) : Type 0 where
  pub payload : b.parts.groups.payload ≡ a.parts.groups.payload
  pub blocks : b.parts.groups.blocks ≡ a.parts.groups.blocks
