-- Which path has a drive's file, and what is said of a drive.
use Rattle.std.specs.Prelude.{◌≡◌, ◌<◌, ◌==◌, ℕ, List, Option, Some, None, length, slice_get, if◌then◌else◌}
use Rattle.drive_places.specs.declared.sight.Sight.{Sight}
use Rattle.drive_places.specs.declared.sight.Sight.TheVariants as sight
use Rattle.drive_places.specs.declared.choice.Choice.{Choice}
use Rattle.drive_places.specs.declared.choice.Choice.TheVariants.{Nowhere, At, Twice}
use Rattle.drive_places.specs.declared.verdict.Verdict.{Verdict}
use Rattle.drive_places.specs.declared.verdict.Verdict.TheVariants as verdict

-- the path of this index has the drive's file
abbrev pub Claims : List Sight → ℕ → ℕ → Type 0
Claims sights drive at = slice_get sights at ≡ Some (sight.Drive drive)

-- of the paths before a bound none has it
abbrev pub IsUnclaimedUpTo : ℕ → List Sight → ℕ → Type 0
IsUnclaimedUpTo bound sights drive = (at : ℕ) → at < bound → Claims sights drive at → ⊥

-- of the paths before a bound that of this index has it, and no other
pub record IsClaimedUpTo (bound : ℕ) (sights : List Sight) (drive index : ℕ) : Type 0 where
  pub claims : Claims sights drive index
  pub within : index < bound
  pub only : (at : ℕ) → at < bound → Claims sights drive at → at ≡ index

-- two paths have it
pub record IsClaimedTwice (sights : List Sight) (drive : ℕ) : Type 0 where
  pub one : ℕ
  pub other : ℕ
  pub differ : one < other
  pub first : Claims sights drive one
  pub second : Claims sights drive other

-- a choice among the paths before a bound is the only one that has the drive's file, or says that there is none, or two
abbrev pub IsChoiceUpTo : ℕ → List Sight → ℕ → Choice → Type 0
IsChoiceUpTo bound sights drive Nowhere = IsUnclaimedUpTo bound sights drive
IsChoiceUpTo bound sights drive (At index) = IsClaimedUpTo bound sights drive index
IsChoiceUpTo bound sights drive Twice = IsClaimedTwice sights drive

-- no path has it; that of this index has it, and no other
abbrev pub IsUnclaimedPath : List Sight → ℕ → Type 0
IsUnclaimedPath sights drive = IsUnclaimedUpTo (length sights) sights drive

abbrev pub IsClaimedAt : List Sight → ℕ → ℕ → Type 0
IsClaimedAt sights drive index = IsClaimedUpTo (length sights) sights drive index

-- a choice among all paths
abbrev pub IsPathChoice : List Sight → ℕ → Choice → Type 0
IsPathChoice sights drive choice = IsChoiceUpTo (length sights) sights drive choice

-- the word for a drive that no path has, by what is at its own place
abbrev pub word_at : Option Sight → ℕ → Verdict
word_at None drive = verdict.Absent
word_at (Some sight.Absent) drive = verdict.Absent
word_at (Some (sight.Unreadable code)) drive = verdict.Unreadable
word_at (Some sight.Foreign) drive = verdict.Foreign
word_at (Some sight.NoDrive) drive = verdict.Misplaced
word_at (Some sight.Again) drive = verdict.Misplaced
word_at (Some (sight.Resized number)) drive = if number == drive then verdict.Resized else verdict.Misplaced
word_at (Some (sight.Drive number)) drive = verdict.Misplaced

-- a drive is present if exactly one path has its file, and doubled if several have it
abbrev pub IsVerdict : List Sight → ℕ → Verdict → Type 0
IsVerdict sights drive verdict.Present = (index : ℕ) × IsClaimedAt sights drive index
IsVerdict sights drive verdict.Doubled = IsClaimedTwice sights drive
IsVerdict sights drive v = IsUnclaimedPath sights drive × (v ≡ word_at (slice_get sights drive) drive)
