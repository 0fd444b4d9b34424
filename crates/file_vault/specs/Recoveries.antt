-- A journal's file that is read again after a stop, and what a stop leaves meanwhile.
use Rattle.std.specs.Prelude.{◌≡◌, ◌≤◌, ◌^◌, true, false, Option, Some, None, ℕ, List}
use Rattle.extent_groups.specs.Planned.{Intended}
use Rattle.vault.specs.declared.store.Stop.{Stop}
use Rattle.vault.specs.Coding.{IsCode}
use Rattle.vault.specs.Moments.{Elapses}
use Rattle.file_vault.specs.Folders.{Bytes, Folder, part}
use Rattle.file_vault.specs.declared.record.Head.{Head}
use Rattle.file_vault.specs.Records.{are_digits, body_at, length_at, nonzero_at, is_whole}
use Rattle.file_vault.specs.Journals.{AreAt, journal_of, SameUnitFiles}

-- whole records lie here, and the next one isn't whole
pub record IsFound (f : Bytes) (places : List ℕ) (batches : List (List Intended)) (end : ℕ) : Type 0 where
  pub lie : AreAt f 4096 places batches end
  pub last : is_whole f end ≡ false
  pub inside : end ≤ 2 ^ 61

abbrev pub HasChain : Bytes → List ℕ → ℕ → Type 0
HasChain f places end = (batches : List (List Intended)) × AreAt f 4096 places batches end

abbrev pub HasFoundBatches : Bytes → List ℕ → ℕ → Type 0
HasFoundBatches f places end = (batches : List (List Intended)) × IsFound f places batches end

-- what the head at a place says; none where a byte of it can't be a head's
abbrev pub IsHeadAt : Bytes → ℕ → Option Head → Type 0
IsHeadAt f at None = are_digits (part f at 18) ≡ false
IsHeadAt f at (Some head) = (are_digits (part f at 18) ≡ true) × (head.length ≡ length_at f at) × (head.nonzero ≡ nonzero_at f at)

-- one whole record more
pub record IsNextRecord (f : Bytes) (at length : ℕ) : Type 0 where
  pub whole : is_whole f at ≡ true
  pub length_is : length ≡ length_at f at
  pub code : IsCode (body_at f at)

-- files were read alone
pub record OnlyRead {F : Type 0} (known : F → Type 0) (seen : F → Folder) (may_leave : F → Stop → Folder → Type 0) (moment : F → ℕ) (left_since : F → Stop → ℕ → Folder → Type 0) (faults : F → ℕ) (old new : F) : Type 0 where
  pub keeps : known new
  pub same : seen new ≡ seen old
  pub time : (stop : Stop) → Elapses (moment old) (moment new) (left_since old stop) (left_since new stop) (may_leave old stop) (may_leave new stop)
  pub later : faults old ≤ faults new

-- a stop leaves what it left, but for the journal's file, and in that the batches that it left
abbrev pub leaves_read : (Folder → Type 0) → Folder → Type 0
leaves_read outcomes g = (f : Folder) × outcomes f × SameUnitFiles f g × (journal_of g ≡ journal_of f)
