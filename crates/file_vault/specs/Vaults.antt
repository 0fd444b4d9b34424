-- What a vault over files stands for, and what is known of it.
use Rattle.std.specs.Prelude.{◌≡◌, ◌≢◌, ◌<◌, get_or, ℕ, Bool, true, false, List, nat_lt, if◌then◌else◌}
use Rattle.extent_groups.specs.Planned.{Intended}
use Rattle.vault.specs.declared.store.Stop.{Stop}
use Rattle.vault.specs.declared.store.VaultError.{VaultError}
use Rattle.vault.specs.declared.store.VaultError.TheVariants.{Journal, Drive}
use Rattle.vault.specs.Images.{Image, is_lost}
use Rattle.file_vault.specs.Folders.{Folder, HasFile}
use Rattle.file_vault.specs.Layouts.{Plan}
use Rattle.file_vault.specs.Journals.{IsSound, image_of}
use Rattle.file_vault.specs.declared.layout.Layout.{Layout}

-- the plan of a layout
abbrev pub plan_of : Layout → Plan
plan_of l = record { unit_bytes = l.unit_bytes; table_bytes = l.table_bytes; counts = l.counts }

-- what files stand for that a stop left
abbrev pub left_of : Plan → (Folder → Type 0) → Image → Type 0
left_of plan outcomes i = (g : Folder) × outcomes g × (i ≡ image_of plan g)

-- some batches lie in a sound journal
pub record HasBatches {F : Type 0} (seen : F → Folder) (may_leave : F → Stop → Folder → Type 0) (files : F) (places : List ℕ) (end durable : ℕ) : Type 0 where
  pub batches : List (List Intended)
  pub sound : IsSound seen may_leave files places batches end durable

-- the files are known, and the journal is sound unless its file has failed
pub record IsKnown {F : Type 0} (known : F → Type 0) (seen : F → Folder) (may_leave : F → Stop → Folder → Type 0) (faults : F → ℕ) (files : F) (places : List ℕ) (end durable : ℕ) (broken : Bool) : Type 0 where
  pub files_known : known files
  pub batches : broken ≡ false → HasBatches seen may_leave files places end durable
  pub failed : broken ≡ true → 0 < faults files

-- the fault of a drive's file, or of the table's
abbrev pub fault_of_file : ℕ → VaultError
fault_of_file drive = if nat_lt drive 16 then Drive drive else Journal

-- the files of the drives below a number are durable, but for lost drives and drives without units
abbrev pub AreSynced : List Bool → List ℕ → Folder → (Stop → Folder → Type 0) → ℕ → Type 0
AreSynced lost counts f outcomes count = (stop : Stop) (d : ℕ) → d < count → is_lost lost d ≡ false → get_or counts d 0 ≢ 0 → HasFile d f (outcomes stop)
