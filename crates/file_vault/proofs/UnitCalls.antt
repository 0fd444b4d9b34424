-- Calls on a unit of a vault over files, from the calls on its file.
use Rattle.std.proofs.Common.{◌≡◌, ◌≢◌, ◌≤◌, ℕ, List, ◌++◌, refl, sym, subst, arith, length}
use Rattle.extent_groups.specs.declared.place.Place.{Place}
use Rattle.vault.specs.Images.{Image, Alike, with_write}
use Rattle.vault.specs.Moments.{Torn, Within, torn_at, written_at}
use Rattle.file_vault.specs.Folders.{Folder, Wrote, Mixed, wrote_at, mixed_at}
use Rattle.unit_digest.specs.Digests.{digest}
use Rattle.file_vault.specs.Layouts.{Plan, count_of, IsAttested}
use Rattle.file_vault.specs.Journals.{image_of}
use Rattle.file_vault.specs.Vaults.{left_of}
use Rattle.file_vault.proofs.Units.{size_at, spot_of, unit_torn, torn_attests, attested_here, unit_written, none_written}

-- the journal's file is none of the drives'
pub other_file : (drive : ℕ) → drive ≤ 16 → drive ≢ 17
other_file drive low e = omega (arith, e, low)

module _ (plan : Plan) (place : Place) (unit bytes : List ℕ) (at : ℕ) (spot : at ≡ spot_of plan place) (sealed : bytes ≡ unit ++ digest place.drive place.address unit) (fits : length unit ≡ size_at plan place.drive) (low : place.drive ≤ 16) where
  at_spot : (f g : Folder) → Mixed place.drive at bytes f g → Mixed place.drive (spot_of plan place) bytes f g
  at_spot f g mixed = subst (λ n. Mixed place.drive n bytes f g) spot mixed

  wrote_spot : (f g : Folder) → Wrote place.drive at bytes f g → Wrote place.drive (spot_of plan place) bytes f g
  wrote_spot f g wrote = subst (λ n. Wrote place.drive n bytes f g) spot wrote

  pub mixed_torn : (f g : Folder) → Mixed place.drive at bytes f g → Torn place (image_of plan f) (image_of plan g)
  mixed_torn f g mixed = unit_torn plan place unit bytes f g fits sealed (other_file place.drive low) (at_spot f g mixed)

  pub mixed_attests : (f g : Folder) → Mixed place.drive at bytes f g → (x : Place) → x ≢ place → IsAttested plan g x → IsAttested plan f x
  mixed_attests f g mixed = torn_attests plan place unit bytes f g fits sealed (at_spot f g mixed)

  pub wrote_attests : (f g : Folder) → Wrote place.drive at bytes f g → IsAttested plan g place
  wrote_attests f g wrote = attested_here plan place unit bytes f g fits sealed (wrote_spot f g wrote)

  pub wrote_alike : (f g : Folder) → Wrote place.drive at bytes f g → Alike (image_of plan g) (with_write (image_of plan f) place unit)
  wrote_alike f g wrote = unit_written plan place unit bytes f g fits sealed (wrote_spot f g wrote) (other_file place.drive low)

  pub torn_to : (outcomes : Folder → Type 0) (g : Folder) → mixed_at place.drive at bytes outcomes g → torn_at place (λ i. left_of plan outcomes i) (image_of plan g)
  torn_to outcomes g (f, was, mixed) = (image_of plan f, (f, was, refl), mixed_torn f g mixed)

  pub written_to : (outcomes later : Folder → Type 0) → Within later (wrote_at place.drive at bytes outcomes) → Within (λ i. left_of plan later i) (written_at place unit (λ i. left_of plan outcomes i))
  written_to outcomes later to i left =
      let from = to left.0 left.1 in
      (image_of plan from.0, (from.0, from.1, refl), subst (λ j. Alike j (with_write (image_of plan from.0) place unit)) (sym left.2) (wrote_alike from.0 left.0 from.2))

-- where no unit is, a write changes nothing
pub torn_not : (place : Place) (i : Image) → Torn place i i
torn_not place i = record { there = λ x. refl; elsewhere = λ x ne. refl; journal = refl }

pub none_to : (plan : Plan) (place : Place) (unit : List ℕ) → count_of plan.counts place.drive ≤ place.address → (outcomes : Folder → Type 0)
    → Within (λ i. left_of plan outcomes i) (written_at place unit (λ i. left_of plan outcomes i))
none_to plan place unit past outcomes i left =
    (i, left, subst (λ j. Alike j (with_write j place unit)) (sym left.2) (none_written plan place unit left.0 past))
