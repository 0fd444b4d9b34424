-- Where units lie in the files, and the units that they hold.
use Rattle.std.specs.Prelude.{◌≡◌, ◌≢◌, ◌⊎◌, ◌<◌, ◌==◌, ◌+◌, ◌*◌, nat_lt, if◌then◌else◌, ℕ, Some, None, List, get_or, replicate}
use Rattle.extent_groups.specs.Cells.{Cells}
use Rattle.extent_groups.specs.declared.place.Place.{Place}
use Rattle.unit_digest.specs.Digests.{digest}
use Rattle.vault.specs.declared.store.UnitRead.{UnitRead}
use Rattle.vault.specs.declared.store.UnitRead.TheVariants.{Whole, Absent, Rotten}
use Rattle.file_vault.specs.Folders.{Folder, part}

-- units of a drive, or of the table
abbrev pub count_of : List ℕ → ℕ → ℕ
count_of counts drive = if drive == 16 then 1026 else if nat_lt drive 16 then get_or counts drive 0 else 0

-- bytes of a unit of a drive
abbrev pub size_of : ℕ → ℕ → ℕ → ℕ
size_of unit_bytes table_bytes drive = if drive == 16 then table_bytes else unit_bytes

-- the offset of a unit of this size: each is followed by a digest of 32 bytes
abbrev pub offset_of : ℕ → ℕ → ℕ
offset_of size at = 4096 + at * (size + 32)

-- how many units each drive has, and how long they are
pub record Plan : Type 0 where
  pub unit_bytes : ℕ
  pub table_bytes : ℕ
  pub counts : List ℕ

-- the unit at an address of a drive
abbrev pub unit_in_file : Plan → Folder → ℕ → ℕ → List ℕ
unit_in_file plan f drive at = part (f drive) (offset_of (size_of plan.unit_bytes plan.table_bytes drive) at) (size_of plan.unit_bytes plan.table_bytes drive)

-- the units in the files
abbrev pub cells_of : Plan → Folder → Cells
cells_of plan f drive at = if nat_lt at (count_of plan.counts drive) then Some (unit_in_file plan f drive at) else None

-- a unit that was read with its digest is whole if that is its own, else rotten
abbrev pub IsWholeOrRotten : ℕ → ℕ → List ℕ → List ℕ → UnitRead → Type 0
IsWholeOrRotten drive at unit seal Whole = seal ≡ digest drive at unit
IsWholeOrRotten drive at unit seal Absent = ⊥
IsWholeOrRotten drive at unit seal Rotten = seal ≡ digest drive at unit → ⊥

-- the digest at an address of a drive
abbrev pub digest_in_file : Plan → Folder → ℕ → ℕ → List ℕ
digest_in_file plan f drive at = part (f drive) (offset_of (size_of plan.unit_bytes plan.table_bytes drive) at + size_of plan.unit_bytes plan.table_bytes drive) 32

-- the unit at a place, if one is there, is as its digest says
abbrev pub IsAttested : Plan → Folder → Place → Type 0
IsAttested plan f x = x.address < count_of plan.counts x.drive → digest_in_file plan f x.drive x.address ≡ digest x.drive x.address (unit_in_file plan f x.drive x.address)

-- drives return of each unit what was last written, or bytes whose digest differs
abbrev pub AreReturned : Plan → Folder → Folder → Type 0
AreReturned plan f g = (x : Place) → x.address < count_of plan.counts x.drive
    → (unit_in_file plan g x.drive x.address ≡ unit_in_file plan f x.drive x.address)
    ⊎ (digest_in_file plan g x.drive x.address ≢ digest x.drive x.address (unit_in_file plan g x.drive x.address))

-- the unit at a place, if one is there, is zeros, with their digest
abbrev pub IsBlank : Plan → Folder → Place → Type 0
IsBlank plan f x = x.address < count_of plan.counts x.drive
    → (unit_in_file plan f x.drive x.address ≡ replicate (size_of plan.unit_bytes plan.table_bytes x.drive) 0)
    × (digest_in_file plan f x.drive x.address ≡ digest x.drive x.address (replicate (size_of plan.unit_bytes plan.table_bytes x.drive) 0))
