-- A save, step by step, and what a stop after any step leaves.
use Rattle.std.specs.Prelude.{◌≡◌, ◌⊎◌, ℕ, zero, suc, List, [], ◌∷◌, ◌++◌, Option, Some, None, slice_get, cond, ◌==◌}
use Rattle.raid_images.specs.declared.plan.Step.{Step}
use Rattle.raid_images.specs.declared.plan.Step.TheVariants.{Write, Commit, Rename}

-- the files of an array, by the digests of their bytes: those that the table in place names, none for a lost drive; and for the
-- image of each drive the file of its name, and the file with `.new`, none where there is no file
pub record Disk : Type 0 where
  pub table : List (Option (List ℕ))
  pub kept : ℕ → Option (List ℕ)
  pub fresh : ℕ → Option (List ℕ)

-- the digest of a drive's image, if it has one
abbrev pub sum_at : List (Option (List ℕ)) → ℕ → Option (List ℕ)
sum_at [] drive = None
sum_at (sum ∷ sums) zero = sum
sum_at (sum ∷ sums) (suc drive) = sum_at sums drive

-- files of which one was replaced
abbrev pub with_file : (ℕ → Option (List ℕ)) → ℕ → Option (List ℕ) → ℕ → Option (List ℕ)
with_file files drive file other = cond (other == drive) file (files other)

-- what a step of a save of images with these digests leaves
abbrev pub after_saving : List (Option (List ℕ)) → Step → Disk → Disk
after_saving sums (Write drive) disk = record { table = disk.table; kept = disk.kept; fresh = with_file disk.fresh drive (sum_at sums drive) }
after_saving sums Commit disk = record { table = sums; kept = disk.kept; fresh = disk.fresh }
after_saving sums (Rename drive) disk = record { table = disk.table; kept = with_file disk.kept drive (disk.fresh drive); fresh = with_file disk.fresh drive None }

-- what steps leave
abbrev pub after_all : List (Option (List ℕ)) → List Step → Disk → Disk
after_all sums [] disk = disk
after_all sums (step ∷ steps) disk = after_all sums steps (after_saving sums step disk)

-- something holds before the first step and after each
abbrev pub AllAlong : (Disk → Type 0) → List (Option (List ℕ)) → List Step → Disk → Type 0
AllAlong P sums [] disk = P disk
AllAlong P sums (step ∷ steps) disk = P disk × AllAlong P sums steps (after_saving sums step disk)

-- each image that the table names is in the file of its name
abbrev pub IsAtHome : Disk → Type 0
IsAtHome disk = (drive : ℕ) (sum : List ℕ) → sum_at disk.table drive ≡ Some sum → disk.kept drive ≡ Some sum

-- each image that the table names is in the file of its name or in that with `.new`, where a reader finds it by its digest
abbrev pub IsRecoverable : Disk → Type 0
IsRecoverable disk = (drive : ℕ) (sum : List ℕ) → sum_at disk.table drive ≡ Some sum → (disk.kept drive ≡ Some sum) ⊎ (disk.fresh drive ≡ Some sum)

-- the table is the older one or the newer one, and its images are there
pub record IsOneSave (older newer : List (Option (List ℕ))) (disk : Disk) : Type 0 where
  pub table : (disk.table ≡ older) ⊎ (disk.table ≡ newer)
  pub whole : IsRecoverable disk

-- the table is the new one, and each image is in the file of its name
pub record IsSaved (newer : List (Option (List ℕ))) (disk : Disk) : Type 0 where
  pub table : disk.table ≡ newer
  pub home : IsAtHome disk

-- the images are written, from the first on
abbrev pub writes_to : ℕ → List Step
writes_to zero = []
writes_to (suc drive) = writes_to drive ++ Write drive ∷ []

-- the images take their names, from the first on
abbrev pub renames_to : ℕ → List Step
renames_to zero = []
renames_to (suc drive) = renames_to drive ++ Rename drive ∷ []

-- all steps of a save
abbrev pub steps_of : ℕ → List Step
steps_of drives = (writes_to drives ++ Commit ∷ []) ++ renames_to drives
