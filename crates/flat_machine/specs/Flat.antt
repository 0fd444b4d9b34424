-- The flat state: a list of acknowledged writes, a list of emitted records, a set of (slot, holder) pairs, and one unit
-- for each slot. It has no running map, no free list and no parity.
use Rattle.std.specs.Prelude.{◌≡◌, ℕ, ◌≤◌, ◌==◌, ◌||◌, ◌&&◌, not, Bool, true, false, if◌then◌else◌, List, [], ◌∷◌, length, replicate, Contains, Option, Some, None}
use Rattle.map_join.specs.declared.records.Record.{Record}
use Rattle.map_join.specs.Record.{key_of}
use Rattle.extents.specs.Failures.{Failures}
use Rattle.extents.specs.declared.header.Header.{Header}
use Rattle.extents.specs.declared.header.Header.TheVariants.{Blank, Is}
use Rattle.extents.specs.declared.header.Kind.{Kind}
use Rattle.extents.specs.declared.header.Kind.TheVariants as kind
use Rattle.extents.specs.Header.{kind_in}
use Rattle.extent_groups.specs.declared.class.Class.{Class}
use Rattle.extent_groups.specs.Groups.{Groups}
use Rattle.flat_machine.specs.Groups.{class_at}

-- what a write gives a block: a payload, or nothing, where the block is trimmed
pub data Content : Type 0 where
  Payload : List ℕ → Content
  Trim : Content

-- the bytes that lie in a unit for a content, given how many a payload has: zeros for a trim
abbrev pub bytes_of : ℕ → Content → List ℕ
bytes_of size (Payload x) = x
bytes_of size Trim = replicate size 0

-- a content that fits into units of that many bytes
abbrev pub IsSized : ℕ → Content → Type 0
IsSized size (Payload x) = length x ≡ size
IsSized size Trim = Unit {0}

-- the kind in the header of a content's unit, and the content that a unit of a kind and a payload holds
abbrev pub kind_of : Content → Kind
kind_of (Payload x) = kind.Data
kind_of Trim = kind.Trim

abbrev pub content_under : Kind → List ℕ → Content
content_under kind.Data payload = Payload payload
content_under kind.Trim payload = Trim

-- an acknowledged write: a version of a block, and what it holds
pub record Write : Type 0 where
  pub block : ℕ
  pub version : ℕ
  pub content : Content

-- who holds a slot: a worker, a worker's ticket, the block whose newest place it is, or the number of a dissolved group
pub data Holder : Type 0 where
  Worker : ℕ → Holder
  Ticket : ℕ → Holder
  Block : ℕ → Holder
  Shut : ℕ → Holder

-- what a ticket's slot waits to be: a fresh content, or a copy of a block's version and hop with its content
pub data Waiting : Type 0 where
  Fresh : Content → Waiting
  Moved : ℕ → ℕ → ℕ → Content → Waiting

-- what will be read where it is committed
abbrev pub content_of : Waiting → Content
content_of (Fresh content) = content
content_of (Moved block version hop content) = content

-- the headers of a unit whose content waits, and of one whose content was committed with a record; `record_in` reads a header
abbrev pub blank_header : Header
blank_header = Blank

abbrev pub header_for : Record → Content → Header
header_for r content = Is r (kind_of content)

-- a unit: its header and its payload
pub record Stored : Type 0 where
  pub header : Header
  pub payload : List ℕ

-- what a unit holds: nothing where its header says so, else its payload
abbrev pub content_in : Stored → Content
content_in u = content_under (kind_in u.header) u.payload

-- the unit in which a content waits under a blank header
abbrev pub waiting_unit : ℕ → Content → Stored
waiting_unit size content = record { header = blank_header; payload = bytes_of size content }

-- the flat state: the groups, with the sizes of the array; how many drives there are, which of these numbers are of a lost drive
-- or of none, and how often each failed spontaneously and whether it is steady; and what was written, emitted, held and stored
pub record Flat : Type 0 where
  pub groups : Groups
  pub drives : ℕ
  pub lost : ℕ → Bool
  pub failures : ℕ → Failures
  pub writes : List Write
  pub emitted : List Record
  pub held : ℕ → Holder → Bool
  pub tickets : ℕ → Option Waiting
  pub units : ℕ → Option Stored

-- a new array: nothing written, nothing held, and no unit, as no group is made
abbrev pub new_flat : Groups → ℕ → (ℕ → Bool) → (ℕ → Failures) → Flat
new_flat groups drives lost failures = record {
  groups = groups;
  drives = drives;
  lost = lost;
  failures = failures;
  writes = [];
  emitted = [];
  held = λ _ _. false;
  tickets = λ _. None;
  units = λ _. None;
}

-- whether two holders are the same
abbrev pub same_holder : Holder → Holder → Bool
same_holder (Worker v) (Worker w) = v == w
same_holder (Ticket v) (Ticket w) = v == w
same_holder (Block a) (Block b) = a == b
same_holder (Shut g) (Shut h) = g == h
same_holder _ _ = false

-- a table with one place changed
abbrev pub put : {X : Type 0} → (ℕ → X) → ℕ → X → ℕ → X
put f place x other = if other == place then x else f other

-- the set of pairs with (slot, holder) added
abbrev pub with_pair : (ℕ → Holder → Bool) → ℕ → Holder → ℕ → Holder → Bool
with_pair held slot holder = put held slot (λ k. held slot k || same_holder k holder)

-- the set of pairs without (slot, holder)
abbrev pub without_pair : (ℕ → Holder → Bool) → ℕ → Holder → ℕ → Holder → Bool
without_pair held slot holder = put held slot (λ k. held slot k && not (same_holder k holder))

-- the set of pairs in which the slot goes from one holder to another
abbrev pub turned : (ℕ → Holder → Bool) → ℕ → Holder → Holder → ℕ → Holder → Bool
turned held slot one other = with_pair (without_pair held slot one) slot other

-- nobody holds the slot
abbrev pub IsUnheld : Flat → ℕ → Type 0
IsUnheld F slot = (k : Holder) → F.held slot k ≡ false

-- the array itself holds the slot: for a ticket, a block or a dissolved group
pub data IsArrays : Holder → Type 0 where
  for_ticket : (w : ℕ) → IsArrays (Ticket w)
  for_block : (b : ℕ) → IsArrays (Block b)
  for_shut : (g : ℕ) → IsArrays (Shut g)

abbrev pub IsArrayHeld : Flat → ℕ → Type 0
IsArrayHeld F slot = (k : Holder) × (IsArrays k) × (F.held slot k ≡ true)

-- no slot has two holders
abbrev pub HeldOnce : Flat → Type 0
HeldOnce F = (slot : ℕ) (j k : Holder) → F.held slot j ≡ true → F.held slot k ≡ true → j ≡ k

-- the class of a slot, none where no made group has it
abbrev pub class_of : Flat → ℕ → Option Class
class_of F slot = class_at F.groups slot

-- the last acknowledged write of a block
abbrev pub or_else : {X : Type 0} → Option X → Option X → Option X
or_else (Some x) _ = Some x
or_else None o = o

abbrev pub last_write : List Write → ℕ → Option Write
last_write [] block = None
last_write (w ∷ ws) block = or_else (last_write ws block) (if w.block == block then Some w else None)

-- the newest record of a block among the emitted: none where there is none of it, else one of them than which none has a
-- greater key
abbrev pub IsNewest : List Record → ℕ → Option Record → Type 0
IsNewest emitted block None = (r : Record) → Contains emitted r → r.block ≡ block → ⊥
IsNewest emitted block (Some r) = (Contains emitted r) × (r.block ≡ block) × ((q : Record) → Contains emitted q → q.block ≡ block → key_of q ≤ key_of r)
