-- What holds of every state that a run leaves: every map that took exactly the emitted records is the array's; where each group
-- misses at most one member it is the map of the headers, and no slot is gone; a read through it answers each block's last
-- write; and no slot has two holders. And how a run leads from world to world.
use Rattle.std.specs.Prelude.{◌≡◌, ◌⊎◌, ◌<◌, ℕ, List, [], ◌∷◌, All, Option, Some, None, slice_get}
use Rattle.map_join.specs.declared.records.Record.{Record}
use Rattle.map_join.specs.Record.{record_of}
use Rattle.map_join.specs.Maps.{IsSame, IsMapOf, HasSameRecords}
use Rattle.extents.specs.Header.{record_in}
use Rattle.extent_groups.specs.Missing.{MissAtMostOne}
use Rattle.extent_groups.specs.Stores.{unit_of}
use Rattle.unit_store.specs.Shows.{IsUnit}
use Rattle.unit_store.specs.Views.{PartsView, IsLost, drive_cells, lost_of}
use Rattle.flat_machine.specs.Flat.{Flat, Write, HeldOnce, Content, Stored, content_in, last_write}
use Rattle.flat_machine.specs.Steps.{FlatStep, FlatAnswer}
use Rattle.flat_machine.specs.Cases.{Case, IsAllocating, Runs, NeverMissesTwo, ReportsPresent}
use Rattle.flat_machine.specs.Scanned.{IsScanned}
use Rattle.slot_tables.specs.Views.{WorldView, SameSizes, key_at}
use Rattle.slot_tables.specs.Represents.{Represents}
use Rattle.step_core.specs.declared.step.Answer.{Answer}
use Rattle.step_core.specs.declared.step.Step.{Step}
use Rattle.step_core.specs.Reported.{flat_answer, flat_step}

-- what the drives have of a slot: the effective unit, where it exists
abbrev pub slot_bytes : PartsView → ℕ → Option (List ℕ)
slot_bytes v slot = unit_of v.groups (drive_cells v) slot

-- the drives have a unit at a record's place, with that record in its header, and with this content
pub record StoresUnit (v : PartsView) (r : Record) (x : Content) : Type 0 where
  pub bytes : List ℕ
  pub there : slot_bytes v r.place ≡ Some bytes
  pub unit : Stored
  pub is : IsUnit bytes unit
  pub header : record_in unit.header ≡ Some r
  pub content : content_in unit ≡ x

-- reading through a key: where there is none the block was never written; else the drives have the content of its last write at
-- the place of the record that has the key, under that record, unless this slot is gone
abbrev pub ReadsThrough : PartsView → Flat → ℕ → ℕ → Type 0
ReadsThrough v F b key = (key ≡ 0 → last_write F.writes b ≡ None)
    × (0 < key → (w : Write) × (last_write F.writes b ≡ Some w) × ((IsLost v (record_of b key).place → ⊥) → StoresUnit v (record_of b key) w.content))

-- each group misses at most one member: one drive is lost, or none, or several of which no group has two
abbrev pub IsOneMissed : PartsView → Type 0
IsOneMissed v = MissAtMostOne v.groups (lost_of v)

pub record Guarantees (w : WorldView) (F : Flat) : Type 0 where
  pub once : HeldOnce F
  -- every map of exactly those records, in any order and with any repeats, is the running array's map
  pub map : IsMapOf F.emitted (key_at w.array)
  pub every : (records : List Record) (M : ℕ → ℕ) → HasSameRecords records F.emitted → IsMapOf records M → IsSame M (key_at w.array)
  pub read : (b : ℕ) → ReadsThrough w.array.parts F b (key_at w.array b)
  -- where each group misses at most one member no slot is gone, and every map of the headers is the array's too
  pub here : IsOneMissed w.array.parts → (slot : ℕ) → IsLost w.array.parts slot → ⊥
  pub scanned : IsOneMissed w.array.parts → (M : ℕ → ℕ) → IsScanned (slot_bytes w.array.parts) M → IsSame M (key_at w.array)
  pub headers : IsOneMissed w.array.parts → IsScanned (slot_bytes w.array.parts) (key_at w.array)

-- the flat machine runs over the steps with these answers; and where no group misses two members in any state of the run, from
-- the first to the last, none of them is the refusal Gone
pub record TellingRun (F : Flat) (steps : List FlatStep) (answers : List FlatAnswer) (G : Flat) : Type 0 where
  pub run : Runs F steps answers G
  pub present : NeverMissesTwo F steps answers G run → All ReportsPresent answers

-- something is true of every state that a world represents
abbrev pub OfEach : WorldView → (Flat → Type 0) → Type 0
OfEach w P = (G : Flat) → Represents w G → P G

-- every map of a list with exactly the state's records, in any order and with any repeats, is the array's
abbrev pub HasMaps : WorldView → Flat → Type 0
HasMaps w F = (records : List Record) (M : ℕ → ℕ) → HasSameRecords records F.emitted → IsMapOf records M → IsSame M (key_at w.array)

-- no slot is gone, and the map of the headers, which is one alone, is the array's
pub record HasHeaders (w : WorldView) : Type 0 where
  pub here : (slot : ℕ) → IsLost w.array.parts slot → ⊥
  pub headers : IsScanned (slot_bytes w.array.parts) (key_at w.array)
  pub scanned : (M : ℕ → ℕ) → IsScanned (slot_bytes w.array.parts) M → IsSame M (key_at w.array)

-- for every block a read through the array's map finds its last write
abbrev pub ReadsLast : WorldView → Flat → Type 0
ReadsLast w F = (b : ℕ) → ReadsThrough w.array.parts F b (key_at w.array b)

-- a step of a world, by the clauses of `World::step` where that returns an answer: it is its case of the flat machine for every
-- state that the world represented, and the array's sizes stay
pub record IsStep (w : WorldView) (step : Step) (answer : Answer) (v : WorldView) : Type 0 where
  pub ok : (F : Flat) → Represents w F → (G : Flat) × Case F (flat_step step) (flat_answer answer) G × Represents v G
  pub room : SameSizes w.array v.array

-- these steps with these answers lead from one world to another: each step begins with the very world that the one before it
-- left, and the last world is the one that the last step left
abbrev pub StepsTo : WorldView → List Step → List Answer → WorldView → Type 0
StepsTo w [] [] v = w ≡ v
StepsTo w (step ∷ steps) (answer ∷ answers) v = (next : WorldView) × IsStep w step answer next × StepsTo next steps answers v
StepsTo w steps answers v = ⊥

-- why a run stops: out of memory before the first step, or at a step all of whose checks before its allocation pass
abbrev pub IsMemoryStop : List Step → ℕ → Flat → Type 0
IsMemoryStop steps at F = (at ≡ 0) ⊎ ((step : Step) × (slice_get steps at ≡ Some step) × IsAllocating F (flat_step step))
