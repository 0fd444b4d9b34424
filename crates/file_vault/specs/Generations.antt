-- The generation of a drive's file, and that of the table: how often the drive, or the table, was made durable after all drives were.
-- Whoever syncs the drives and then the table raises all of them by one: so a drive's file has the table's generation or the next,
-- and a copy of before the last such round has a lower one.
use Rattle.std.specs.Prelude.{◌≡◌, ◌⊎◌, ◌<◌, ◌≤◌, ◌+◌, ◌-◌, ◌*◌, ◌/◌, ◌%◌, ◌^◌, ◌==◌, ◌&&◌, nat_le, nat_lt, if◌then◌else◌, Bool, true, false, ℕ, zero, suc, Option, Some, None, List, [], ◌∷◌, slice_get}
use Rattle.vault.specs.declared.store.Stop.{Stop}
use Rattle.file_vault.specs.Folders.{Folder, part}

-- The bytes of a generation: each is the difference of a byte of the number and the next higher one. So one byte alone differs
-- between those of a number and of the next, and a write of them that a stop cuts short leaves either.
abbrev pub code_byte : ℕ → ℕ
code_byte n = (n % 256 + 256 - (n / 256) % 256) % 256

abbrev pub stamp_bytes : ℕ → ℕ → List ℕ
stamp_bytes zero n = []
stamp_bytes (suc count) n = code_byte n ∷ stamp_bytes count (n / 256)

-- the number of such bytes
abbrev pub stamp_number : List ℕ → ℕ
stamp_number [] = 0
stamp_number (b ∷ bs) = (b + stamp_number bs) % 256 + 256 * stamp_number bs

-- where a file has it: a drive's in its first block, the table's after the table
abbrev pub stamp_offset : ℕ → ℕ
stamp_offset d = if d == 16 then 65536 else 128

-- a file of files has this generation
abbrev pub HasGeneration : Folder → ℕ → ℕ → Type 0
HasGeneration f d n = part (f d) (stamp_offset d) 8 ≡ stamp_bytes 8 n

-- a drive's file has the table's generation, or the next
abbrev pub IsCurrent : Folder → ℕ → ℕ → Type 0
IsCurrent f d n = HasGeneration f d n ⊎ ((suc n < 2 ^ 64) × HasGeneration f d (suc n))

-- the bytes of a generation are no others'
abbrev pub is_stamp : ℕ → ℕ → Bool
is_stamp d k = nat_lt d 17 && (nat_le (stamp_offset d) k && nat_lt k (stamp_offset d + 8))

-- files without their generations
abbrev pub unstamped : Folder → Folder
unstamped f d k = if is_stamp d k then 0 else f d k

abbrev pub unstamped_of : (Folder → Type 0) → Folder → Type 0
unstamped_of outcomes h = (f : Folder) × outcomes f × (h ≡ unstamped f)

-- a range has no byte of a generation
abbrev pub HasNoGeneration : ℕ → ℕ → ℕ → Type 0
HasNoGeneration d at count = (k : ℕ) → at ≤ k → k < at + count → is_stamp d k ≡ false

abbrev pub is_some_true : Option Bool → Bool
is_some_true None = false
is_some_true (Some b) = b

-- a drive has a mark
abbrev pub is_flagged : List Bool → ℕ → Bool
is_flagged marks d = is_some_true (slice_get marks d)

-- The table has this generation, or the next once each drive with the first mark has that. A drive with the first mark has either,
-- and with the second mark the next.
pub record AgreeIn (n : ℕ) (current raised : List Bool) (f : Folder) : Type 0 where
  pub table : HasGeneration f 16 n ⊎ HasGeneration f 16 (suc n)
  pub drive : (d : ℕ) → d < 16 → is_flagged current d ≡ true → (HasGeneration f d n × HasGeneration f 16 n) ⊎ HasGeneration f d (suc n)
  pub next : (d : ℕ) → d < 16 → is_flagged raised d ≡ true → HasGeneration f d (suc n)

-- also after each stop
abbrev pub AgreeAtStops : {F : Type 0} → (F → Stop → Folder → Type 0) → F → ℕ → List Bool → List Bool → Type 0
AgreeAtStops may_leave files n current raised = (stop : Stop) (g : Folder) → may_leave files stop g → AgreeIn n current raised g

-- at a stop a drive with the mark has the generation of the table then, or the next
abbrev pub AreCurrentAtStops : {F : Type 0} → (F → Stop → Folder → Type 0) → F → List Bool → Type 0
AreCurrentAtStops may_leave files current = (stop : Stop) (g : Folder) → may_leave files stop g → (d : ℕ) → d < 16 → is_flagged current d ≡ true
    → (t : ℕ) × HasGeneration g 16 t × (HasGeneration g d t ⊎ HasGeneration g d (suc t))

-- each drive with the mark has this generation or the next, also after each stop
abbrev pub HaveGenerations : {F : Type 0} → (F → Stop → Folder → Type 0) → F → ℕ → List Bool → Type 0
HaveGenerations may_leave files n marks = (d : ℕ) → d < 16 → is_flagged marks d ≡ true → (stop : Stop) (g : Folder) → may_leave files stop g → IsCurrent g d n

-- files are known, and agree
abbrev pub AreStamped : {F : Type 0} → (F → Type 0) → (F → Stop → Folder → Type 0) → F → ℕ → List Bool → List Bool → Type 0
AreStamped known may_leave files n current raised = known files × AgreeAtStops may_leave files n current raised
