-- What a backing holds after a unit is written, and for each size that the units have.
use Rattle.std.proofs.Common.{◌≡◌, ℕ, ◌*◌, ◌<◌, List, length, refl, sym, ◌∙◌, subst, Some, None, Option, false, Result, Ok, Err, OnOk}
use Rattle.std.specs.Prelude.{slice_set, is_err}
use Rattle.std.proofs.lemmas.Option.{same_Some, none-some}
use Rattle.extents.specs.Units.{AreUnitsSized}
use Rattle.images.specs.Images.{IsImage}
use Rattle.file_drive.specs.Files.{AreImageOf, HoldsImage, Overwrites, written_over}
use Rattle.file_drive.proofs.Images.{any_size, unit_fits, unit_long, unit_over}

-- what is held with one size is held with each that the units have
pub are_held : (known : Option (List ℕ)) (size : ℕ) (units : List (List ℕ)) → HoldsImage known size units → AreImageOf known units
are_held known size units held m sized bytes is = any_size m size bytes units sized (held bytes is)

-- what is durable after a sync that is Ok
pub synced : {A E : Type 0} (result : Result A E) (durable known : Option (List ℕ)) (size : ℕ) (units : List (List ℕ)) → is_err result ≡ false
    → OnOk result (durable ≡ known) → HoldsImage known size units → AreImageOf durable units
synced (Ok a) durable known size units fine is held = are_held durable size units (subst (λ k. HoldsImage k size units) (sym is) held)
synced (Err e) durable known size units fine is held = cc

-- a unit that was written to the backing and kept in memory
pub holds_written : (old new : Option (List ℕ)) (size at start : ℕ) (unit : List ℕ) (units after : List (List ℕ))
    → at < length units → start ≡ at * size → AreUnitsSized (length unit) units
    → Overwrites old start unit new → HoldsImage old size units → after ≡ slice_set units at unit → HoldsImage new size after
holds_written None new size at start unit units after low is sized puts held set bytes known =
    absurd (none-some bytes (sym (puts.unknown refl) ∙ known))
holds_written (Some had) new size at start unit units after low is sized puts held set bytes known =
    let was = held had refl in
    let long = unit_long (length unit) size at had units low sized was in
    let fits = unit_fits size at unit had units low long was in
    let over = (subst (λ s. Overwrites (Some had) s unit new) is puts).over had refl fits in
    let same : written_over (at * size) unit had ≡ bytes = same_Some _ _ (sym over ∙ known) in
    subst (λ us. IsImage size bytes us) (sym set) (subst (λ bs. IsImage size bs (slice_set units at unit)) same (unit_over size at unit had units low long was))
