-- The state in which an array is rebuilt from what its drives hold: stated over the groups, the drives and the units alone.
use Rattle.std.specs.Prelude.{◌≡◌, ◌≢◌, ℕ, ◌<◌, ◌==◌, ◌&&◌, nat_lt, is_some, length, Bool, false, List, [], map, Option, Some, None}
use Rattle.map_join.specs.declared.records.Record.{Record}
use Rattle.map_join.specs.Record.{record_of}
use Rattle.map_join.specs.Maps.{IsListOf}
use Rattle.extents.specs.Header.{record_in}
use Rattle.extent_groups.specs.Groups.{Groups}
use Rattle.flat_machine.specs.Groups.{class_at}
use Rattle.flat_machine.specs.Flat.{Flat, Write, Holder, Block, Content, Payload, Stored, content_in}
use Rattle.flat_machine.specs.History.{IsHeaderOf, IsAt}

-- the units of an array's groups have this map: each slot of a group has a unit, as long as a payload, and no other slot has
-- one; a record in a header is of one of the blocks and of that very slot, and is the map's or has a stamp below the map's; and
-- each record of the map is in the header of its place
pub record ReportMap (groups : Groups) (units : ℕ → Option Stored) (keys : ℕ → ℕ) : Type 0 where
  pub there : (s : ℕ) → is_some (units s) ≡ is_some (class_at groups s)
  pub sized : (s : ℕ) (u : Stored) → units s ≡ Some u → length u.payload ≡ groups.payload
  pub header : (s : ℕ) (u : Stored) (r : Record) → units s ≡ Some u → record_in u.header ≡ Some r → IsHeaderOf keys s r
  pub blocks : (s : ℕ) (u : Stored) (r : Record) → units s ≡ Some u → record_in u.header ≡ Some r → r.block < groups.blocks
  pub found : (b : ℕ) → 0 < keys b → (x : Content) × IsAt units (record_of b (keys b)) x

-- the records of a map are of an array's blocks, each in a slot of a group, and no two in one slot
pub record HasDistinctSlots (groups : Groups) (keys : ℕ → ℕ) : Type 0 where
  pub blocks : (b : ℕ) → 0 < keys b → b < groups.blocks
  pub slots : (b : ℕ) → 0 < keys b → class_at groups (record_of b (keys b)).place ≢ None
  pub apart : (b c : ℕ) → 0 < keys b → 0 < keys c → (record_of b (keys b)).place ≡ (record_of c (keys c)).place → b ≡ c

-- what a unit holds, if there is one
abbrev pub content_at : Option Stored → Content
content_at None = Payload []
content_at (Some u) = content_in u

-- the write given by a record and the unit at its place
abbrev pub write_at : (ℕ → Option Stored) → Record → Write
write_at units r = record { block = r.block; version = r.version; content = content_at (units r.place) }

-- the slots' holders where nobody works: each block has its newest place
abbrev pub newest_places : (ℕ → ℕ) → ℕ → Holder → Bool
newest_places keys slot (Block b) = nat_lt 0 (keys b) && (record_of b (keys b)).place == slot
newest_places keys slot _ = false

-- the state x restarted with this map and its list of records: each block was written once, with what was found, the list is the
-- log, only the newest places are held, and nothing is pending; groups, drives and units are as they were
abbrev pub restarted : Flat → (ℕ → ℕ) → List Record → Flat
restarted x keys records = record x {
  writes = map (write_at x.units) records;
  emitted = records;
  held = newest_places keys;
  tickets = λ _. None;
}

-- H is the state x restarted with this map
pub record IsRestarted (x : Flat) (keys : ℕ → ℕ) (H : Flat) : Type 0 where
  pub log : IsListOf keys H.emitted
  pub is : H ≡ restarted x keys H.emitted
