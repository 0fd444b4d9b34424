-- What a refused call leaves of an array.
use Rattle.std.specs.Prelude.{◌≡◌, Option, Some, None}
use Rattle.flat_machine.specs.declared.refusal.Refusal.{Refusal}
use Rattle.flat_machine.specs.declared.refusal.Refusal.TheVariants.{Gone, DriveLost}
use Rattle.unit_store.specs.Views.{Loses}
use Rattle.slot_tables.specs.Views.{ArrayView, WorldView, with_parts}

-- all but its drives, of which some may have been lost
abbrev pub OnlyLoses : ArrayView → ArrayView → Type 0
OnlyLoses a b = (b ≡ with_parts a b.parts) × Loses a.parts b.parts

-- the same of a world
abbrev pub OnlyLosesOf : WorldView → WorldView → Type 0
OnlyLosesOf v w = (w.hands ≡ v.hands) × OnlyLoses v.array w.array

-- the array as it was; where a drive is reported lost or a slot gone, drives may have been lost
abbrev pub IsRefused : ArrayView → ArrayView → Refusal → Type 0
IsRefused a b (Gone slot) = OnlyLoses a b
IsRefused a b (DriveLost drive) = OnlyLoses a b
IsRefused a b _ = b ≡ a

-- the same where there may be no refusal: then the array is as it was
abbrev pub IsUnplaced : ArrayView → ArrayView → Option Refusal → Type 0
IsUnplaced a b None = b ≡ a
IsUnplaced a b (Some q) = IsRefused a b q
