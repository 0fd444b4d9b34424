-- A journal that lies in two files, 17 and 18: which of them counts, and what both show. The first block of each has a count, which
-- is raised by one at each opening, and by three where the journal goes on without the other.
use Rattle.std.specs.Prelude.{◌≡◌, ◌≢◌, ◌⊎◌, ◌==◌, ◌<◌, ◌≤◌, ◌+◌, nat_lt, not, if◌then◌else◌, Bool, true, false, ℕ, suc}
use Rattle.vault.specs.declared.store.Stop.{Stop}
use Rattle.vault.specs.Coding.{number}
use Rattle.vault.specs.Moments.{Elapses}
use Rattle.file_vault.specs.Folders.{Bytes, Folder, part}
use Rattle.file_vault.specs.Headers.{SameAfterHeader}
use Rattle.file_vault.specs.declared.twin.Twin.{Twin}
use Rattle.file_vault.specs.declared.twin.Twin.TheVariants.{First, Second}
use Rattle.file_vault.specs.declared.held.Held.{Held}
use Rattle.file_vault.specs.declared.held.Held.TheVariants.{Both, Only, Neither}
use Rattle.file_vault.specs.declared.joined.Found.{Found}
use Rattle.file_vault.specs.declared.joined.Found.TheVariants.{Pair, One, None}

-- the other one, and the number of a copy's file
abbrev pub other : Twin → Twin
other First = Second
other Second = First

abbrev pub file_of : Twin → ℕ
file_of First = 17
file_of Second = 18

-- which of two places a file's count is in, by a byte; where the places are, and the byte for each
abbrev pub which_in : Bytes → Bool
which_in b = not (b 64 == 0)

abbrev pub count_offset : Bool → ℕ
count_offset true = 80
count_offset false = 72

abbrev pub mark_of : Bool → ℕ
mark_of true = 1
mark_of false = 0

-- a file's count
abbrev pub count_in : Bytes → ℕ
count_in b = number (part b (count_offset (which_in b)) 8)

-- a copy counts unless the other's count is higher by more than one
abbrev pub Counts : Folder → Twin → Type 0
Counts g twin = count_in (g (file_of (other twin))) ≤ suc (count_in (g (file_of twin)))

-- the bytes after the first block, and zeros before
abbrev pub after_first_block : Bytes → Bytes
after_first_block b k = if nat_lt k 4096 then 0 else b k

abbrev pub none : Bytes
none k = 0

-- files with this journal, in one file
abbrev pub chosen : Bool → Bool → Bytes → Bytes → Bytes
chosen true hidden journal b = journal
chosen false true journal b = none
chosen false false journal b = b

abbrev pub with_journal_file : Bytes → Folder → Folder
with_journal_file journal f d = chosen (d == 17) (d == 18) journal (f d)

-- files as one copy shows them
abbrev pub seen_as : Twin → Folder → Folder
seen_as twin f = with_journal_file (after_first_block (f (file_of twin))) f

-- files as their copies may show them: each byte of the journal is that of a copy that counts
pub record MergesTwins (f h : Folder) : Type 0 where
  pub journal : (k : ℕ) → (Counts f First × (h 17 k ≡ after_first_block (f 17) k)) ⊎ (Counts f Second × (h 17 k ≡ after_first_block (f 18) k))
  pub hidden : h 18 ≡ none
  pub others : (d : ℕ) → d ≢ 17 → d ≢ 18 → h d ≡ f d

abbrev pub shown : (Folder → Type 0) → Folder → Type 0
shown outcomes h = (f : Folder) × outcomes f × MergesTwins f h

-- the copy that is read
abbrev pub lead_of : Held → Twin
lead_of (Both count) = First
lead_of (Only twin count) = twin
lead_of Neither = First

-- both files have this count, also after each stop
abbrev pub AreEven : {F : Type 0} → (F → Stop → Folder → Type 0) → F → ℕ → Type 0
AreEven may_leave files count = (stop : Stop) (g : Folder) → may_leave files stop g → (count_in (g 17) ≡ count) × (count_in (g 18) ≡ count)

-- the other file doesn't count, also after each stop
abbrev pub IsAheadOfTwin : {F : Type 0} → (F → Stop → Folder → Type 0) → F → Twin → ℕ → Type 0
IsAheadOfTwin may_leave files twin count = (stop : Stop) (g : Folder) → may_leave files stop g → (count_in (g (file_of twin)) ≡ count) × (count_in (g (file_of (other twin))) + 2 ≤ count)

-- both files have the same batches
abbrev pub AreAlike : Folder → Type 0
AreAlike f = (k : ℕ) → 4096 ≤ k → f 17 k ≡ f 18 k

-- what is known of the files of a journal
abbrev pub IsHeld : {F : Type 0} → (F → Folder) → (F → Stop → Folder → Type 0) → F → Held → Type 0
IsHeld seen may_leave files (Both count) = AreEven may_leave files count × AreAlike (seen files)
IsHeld seen may_leave files (Only twin count) = IsAheadOfTwin may_leave files twin count
IsHeld seen may_leave files Neither = Unit {0}

-- some file is left
abbrev pub IsAvailable : Held → Type 0
IsAvailable (Both count) = Unit {0}
IsAvailable (Only twin count) = Unit {0}
IsAvailable Neither = ⊥

-- a file may go on alone: it counts, and the other's count isn't above this by more than one, also after each stop
abbrev pub MayLead : {F : Type 0} → (F → Stop → Folder → Type 0) → F → Twin → ℕ → Type 0
MayLead may_leave files twin count = (stop : Stop) (g : Folder) → may_leave files stop g → Counts g twin × (count_in (g (file_of (other twin))) ≤ suc count)

-- the count of a file may have become this, and else its first block alone is another
abbrev pub counted_at : ℕ → ℕ → (Folder → Type 0) → Folder → Type 0
counted_at file count outcomes g = (f : Folder) × outcomes f × SameAfterHeader file f g × ((count_in (g file) ≡ count_in (f file)) ⊎ (count_in (g file) ≡ count))

-- one file alone is left, this one
abbrev pub IsOnly : Twin → Held → Type 0
IsOnly twin (Both count) = ⊥
IsOnly twin (Only one count) = one ≡ twin
IsOnly twin Neither = Unit {0}

-- a file that is left is one of which a call succeeded
abbrev pub HasSucceeded : Bool → Bool → Held → Type 0
HasSucceeded first second (Both count) = (first ≡ true) × (second ≡ true)
HasSucceeded first second (Only First count) = first ≡ true
HasSucceeded first second (Only Second count) = second ≡ true
HasSucceeded first second Neither = Unit {0}

-- the same files but for the first blocks of both
pub record SameBoth (f g : Folder) : Type 0 where
  pub first : (k : ℕ) → 4096 ≤ k → g 17 k ≡ f 17 k
  pub second : (k : ℕ) → 4096 ≤ k → g 18 k ≡ f 18 k
  pub others : (d : ℕ) → d ≢ 17 → d ≢ 18 → g d ≡ f d

-- time goes on for what the files show
abbrev pub ShownElapses : {F : Type 0} → (F → ℕ) → (F → Stop → ℕ → Folder → Type 0) → (F → Stop → Folder → Type 0) → F → F → Stop → (Folder → Type 0) → Type 0
ShownElapses moment left_since may_leave old new stop during =
    Elapses (moment old) (moment new) (λ t h. shown (left_since old stop t) h) (λ t h. shown (left_since new stop t) h) during (λ h. shown (may_leave new stop) h)

-- no other file than this one is newer by more than one, also after each stop
abbrev pub CountsOn : {F : Type 0} → (F → Stop → Folder → Type 0) → F → Twin → Type 0
CountsOn may_leave files twin = (stop : Stop) (g : Folder) → may_leave files stop g → Counts g twin

-- a file that couldn't be read or synced isn't newer than the other
abbrev pub IsNotNewer : {F : Type 0} → (F → Stop → Folder → Type 0) → F → Found → Type 0
IsNotNewer may_leave files Pair = Unit {0}
IsNotNewer may_leave files (One twin) = CountsOn may_leave files twin
IsNotNewer may_leave files None = Unit {0}

-- both files are left
abbrev pub IsBoth : Held → Type 0
IsBoth (Both count) = Unit {0}
IsBoth (Only twin count) = ⊥
IsBoth Neither = ⊥

-- the one whose count is higher, of two as high the first
abbrev pub newer_of : Folder → Twin
newer_of f = if nat_lt (count_in (f 17)) (count_in (f 18)) then Second else First

-- one that is left alone has this count
abbrev pub HasCount : ℕ → Held → Type 0
HasCount n (Both count) = ⊥
HasCount n (Only twin count) = count ≡ n
HasCount n Neither = Unit {0}

-- the count of each that is left is higher than it was, and where both are left than either was
abbrev pub IsRaised : Folder → Held → Type 0
IsRaised f (Both count) = (count_in (f 17) < count) × (count_in (f 18) < count)
IsRaised f (Only twin count) = count_in (f (file_of twin)) < count
IsRaised f Neither = Unit {0}

-- what is found: of two files what both may show, of one what it shows
abbrev pub IsFoundIn : Found → Folder → Folder → Type 0
IsFoundIn Pair f h = MergesTwins f h
IsFoundIn (One twin) f h = h ≡ seen_as twin f
IsFoundIn None f h = ⊥

-- bytes of one file may have been copied over the other's, after the first block
pub record CopiedOver (lead : Twin) (s f g : Folder) : Type 0 where
  pub mate : (k : ℕ) → (g (file_of (other lead)) k ≡ f (file_of (other lead)) k) ⊎ ((4096 ≤ k) × (g (file_of (other lead)) k ≡ s (file_of lead) k))
  pub others : (d : ℕ) → d ≢ file_of (other lead) → g d ≡ f d

abbrev pub copied_at : Twin → Folder → (Folder → Type 0) → Folder → Type 0
copied_at lead s outcomes g = (f : Folder) × outcomes f × CopiedOver lead s f g

-- both files are as calls find them, also after each stop
abbrev pub AreSettled : {F : Type 0} → (F → Folder) → (F → Stop → Folder → Type 0) → F → Type 0
AreSettled seen may_leave files = (stop : Stop) (g : Folder) → may_leave files stop g → (g 17 ≡ seen files 17) × (g 18 ≡ seen files 18)
