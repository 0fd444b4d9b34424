-- The journal's file: after its header records, one after the other, and then zeros. A write that a stop cut short leaves zeros in
-- place of some bytes: then a byte of the head is 0, or the batch has fewer bytes that aren't 0 than the head says. So the records
-- that are whole are read, up to the first that isn't.
use Rattle.std.specs.Prelude.{◌≡◌, ◌≢◌, ◌⊎◌, ◌+◌, ◌<◌, ◌≤◌, ◌^◌, length, if◌then◌else◌, true, ℕ, zero, suc, List, [], ◌∷◌}
use Rattle.extent_groups.specs.Planned.{Intended}
use Rattle.vault.specs.declared.store.Stop.{Stop}
use Rattle.vault.specs.declared.store.Stop.TheVariants.{Killed, PowerLost}
use Rattle.vault.specs.Coding.{decoded, IsCode}
use Rattle.vault.specs.Images.{Image}
use Rattle.file_vault.specs.Folders.{Bytes, Folder}
use Rattle.file_vault.specs.Layouts.{Plan, cells_of}
use Rattle.file_vault.specs.Records.{body_at, next_at, is_whole, IsBatchRecord}

-- the batches of the whole records from a place on, at most so many
abbrev pub batches_from : ℕ → Bytes → ℕ → List (List Intended)
batches_from zero f at = []
batches_from (suc most) f at = if is_whole f at then decoded (body_at f at) ∷ batches_from most f (next_at f at) else []

-- more batches than fit into a journal
unfoldable pub most : ℕ
most = 2 ^ 62

-- the batches in files
abbrev pub journal_of : Folder → List (List Intended)
journal_of f = batches_from most (f 17) 4096

-- what files stand for
abbrev pub image_of : Plan → Folder → Image
image_of plan f = record { cells = cells_of plan f; journal = journal_of f }

-- whole records of these batches lie here, one after the other
abbrev pub AreAt : Bytes → ℕ → List ℕ → List (List Intended) → ℕ → Type 0
AreAt f at [] [] end = at ≡ end
AreAt f at (place ∷ places) (batch ∷ batches) end =
    (place ≡ at) × (is_whole f at ≡ true) × IsCode (body_at f at) × (decoded (body_at f at) ≡ batch) × AreAt f (next_at f at) places batches end
AreAt f at places batches end = ⊥

-- the place after so many records
abbrev pub place_after : List ℕ → ℕ → ℕ → ℕ
place_after [] end count = end
place_after (place ∷ places) end zero = place
place_after (place ∷ places) end (suc count) = place_after places end count

-- of a file that is left: it is as calls find it up to a place, and then each byte is as they find it, or 0
pub record KeepsFileFront (f g : Bytes) (low : ℕ) : Type 0 where
  pub same : (k : ℕ) → 4096 ≤ k → k < low → g k ≡ f k
  pub rest : (k : ℕ) → low ≤ k → (g k ≡ f k) ⊎ (g k ≡ 0)

-- The records of these batches lie in the journal, and after them zeros. A kill leaves its bytes as calls find them, and a loss of
-- power zeros in place of some that come after the first, durable records.
pub record IsSound {F : Type 0} (seen : F → Folder) (may_leave : F → Stop → Folder → Type 0) (files : F) (places : List ℕ) (batches : List (List Intended)) (end durable : ℕ) : Type 0 where
  pub lie : AreAt (seen files 17) 4096 places batches end
  pub inside : end ≤ 2 ^ 62
  pub some : durable ≤ length places
  pub zeros : (k : ℕ) → end ≤ k → seen files 17 k ≡ 0
  pub killed : (g : Folder) → may_leave files Killed g → (k : ℕ) → 4096 ≤ k → g 17 k ≡ seen files 17 k
  pub power : (g : Folder) → may_leave files PowerLost g → KeepsFileFront (seen files 17) (g 17) (place_after places end durable)

-- the same files but for the journal's
abbrev pub SameUnitFiles : Folder → Folder → Type 0
SameUnitFiles f g = (d : ℕ) → d ≢ 17 → g d ≡ f d

-- a batch's record may be written at the end of a sound journal
pub record MayPut {F : Type 0} (seen : F → Folder) (may_leave : F → Stop → Folder → Type 0) (files : F) (places : List ℕ) (batches : List (List Intended)) (end durable : ℕ) (bytes : List ℕ) (batch : List Intended) : Type 0 where
  pub sound : IsSound seen may_leave files places batches end durable
  pub put : IsBatchRecord bytes batch
  pub room : end + length bytes ≤ 2 ^ 62

-- a journal's file was ended at a place: before it all is the same, and from it on there are zeros
pub record IsEnded (at : ℕ) (f g : Bytes) : Type 0 where
  pub before : (k : ℕ) → k < at → g k ≡ f k
  pub zeros : (k : ℕ) → at ≤ k → g k ≡ 0

-- a stop left it as it was, or with a 0 at the place
pub record MayEnd (at : ℕ) (f g : Folder) : Type 0 where
  pub others : SameUnitFiles f g
  pub before : (k : ℕ) → k < at → g 17 k ≡ f 17 k
  pub either : (g 17 ≡ f 17) ⊎ (g 17 at ≡ 0)

abbrev pub ended_at : ℕ → (Folder → Type 0) → Folder → Type 0
ended_at at outcomes g = (f : Folder) × outcomes f × MayEnd at f g
