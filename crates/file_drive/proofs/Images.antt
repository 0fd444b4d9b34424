-- An image and the units that lie in its bytes; an image over which a unit was written; the size of an image's units.
use Rattle.std.proofs.Common.{◌≡◌, ℕ, ◌+◌, ◌-◌, ◌*◌, ◌<◌, ◌≤◌, List, [], ◌∷◌, ◌++◌, length, take, drop, get_or, sym, ap, ◌∙◌, arith, refl, subst, Some}
use Rattle.std.specs.Prelude.{slice_set, slice_get, slice_range}
use Rattle.std.proofs.lemmas.List.{length-append, length-take-le, length-drop, length-set, same_lists}
use Rattle.std.proofs.lemmas.Option.{get_or_from_slice_get}
use Rattle.extents.specs.Units.{units_in, AreUnitsSized}
use Rattle.extents.proofs.UnitsIn.{length-units_in, get-units_in, units_in-written, unit_within}
use Rattle.images.specs.Images.{IsImage}
use Rattle.file_drive.specs.Files.{written_over}

-- a run of a unit's length
run_is : (size at : ℕ) (bytes : List ℕ) → slice_range bytes (at * size) (at * size + size) ≡ take size (drop (at * size) bytes)
run_is size at bytes = let same : at * size + size - at * size ≡ size = omega arith in ap (λ n. take n (drop (at * size) bytes)) same

-- an image's units are those in its bytes
units_of : (size : ℕ) (bytes : List ℕ) (units : List (List ℕ)) → IsImage size bytes units → units_in size (length units) bytes ≡ units
units_of size bytes units image = same_lists (units_in size (length units) bytes) units (length-units_in size (length units) bytes) each
  where
    each : (k : ℕ) (d : List ℕ) → k < length (units_in size (length units) bytes) → get_or (units_in size (length units) bytes) k d ≡ get_or units k d
    each k d low =
        let inside : k < length units = subst (λ n. k < n) (length-units_in size (length units) bytes) low in
        get_or_from_slice_get (units_in size (length units) bytes) k (take size (drop (k * size) bytes)) d (get-units_in size (length units) k (k * size) bytes inside refl)
        ∙ sym (get_or_from_slice_get units k (take size (drop (k * size) bytes)) d (image.each k inside ∙ ap (λ xs. Some xs) (run_is size k bytes)))

-- bytes are an image of the units that lie in them
image_of : (size : ℕ) (bytes : List ℕ) (units : List (List ℕ)) → length bytes ≡ length units * size → units_in size (length units) bytes ≡ units → IsImage size bytes units
image_of size bytes units long same = record { long = long; each = each }
  where
    each : (at : ℕ) → at < length units → slice_get units at ≡ Some (slice_range bytes (at * size) (at * size + size))
    each at low =
        ap (λ us. slice_get us at) (sym same)
        ∙ get-units_in size (length units) at (at * size) bytes low refl
        ∙ ap (λ xs. Some xs) (sym (run_is size at bytes))

-- what has the length of an image's unit has its size
pub unit_long : (m size at : ℕ) (bytes : List ℕ) (units : List (List ℕ)) → at < length units → AreUnitsSized m units → IsImage size bytes units → m ≡ size
unit_long m size at bytes units low sized image =
    let within = unit_within size (length units) at low in
    let room : size ≤ length (drop (at * size) bytes) = (let e = image.long in let d = length-drop (at * size) bytes in omega arith) in
    let there = image.each at low ∙ ap (λ xs. Some xs) (run_is size at bytes) in
    sym (sized at (take size (drop (at * size) bytes)) there) ∙ length-take-le size (drop (at * size) bytes) room

-- an image of one size is one of any size that the units have
pub any_size : (m size : ℕ) (bytes : List ℕ) (units : List (List ℕ)) → AreUnitsSized m units → IsImage size bytes units → IsImage m bytes units
any_size m size bytes [] sized image = record { long = none; each = λ at low. absurd (omega arith) }
  where
    none : length bytes ≡ 0 * m
    none = let e : length bytes ≡ 0 * size = image.long in omega arith
any_size m size bytes (u ∷ us) sized image =
    subst (λ n. IsImage n bytes (u ∷ us)) (sym (unit_long m size 0 bytes (u ∷ us) (omega arith) sized image)) image

-- bytes over which a piece was written within them are no longer than before
long_over : (start : ℕ) (piece bytes : List ℕ) → start + length piece ≤ length bytes → length (written_over start piece bytes) ≡ length bytes
long_over start piece bytes fits =
    let a = length-append (take start bytes) (piece ++ drop (start + length piece) bytes) in
    let b = length-append piece (drop (start + length piece) bytes) in
    let c = length-take-le start bytes (omega arith) in
    let d = length-drop (start + length piece) bytes in
    omega arith

-- a unit lies within its image
pub unit_fits : (size at : ℕ) (unit bytes : List ℕ) (units : List (List ℕ)) → at < length units → length unit ≡ size → IsImage size bytes units
    → at * size + length unit ≤ length bytes
unit_fits size at unit bytes units low long image =
    let within = unit_within size (length units) at low in
    let e = image.long in
    omega arith

-- an image over which a unit was written at its address
pub unit_over : (size at : ℕ) (unit bytes : List ℕ) (units : List (List ℕ)) → at < length units → length unit ≡ size → IsImage size bytes units
    → IsImage size (written_over (at * size) unit bytes) (slice_set units at unit)
unit_over size at unit bytes units low long image =
    let fits = unit_fits size at unit bytes units low long image in
    let many : length (slice_set units at unit) ≡ length units = length-set units at unit in
    let once = units_in-written size (length units) at (at * size) bytes unit low refl (let e = image.long in omega arith) long in
    image_of size (written_over (at * size) unit bytes) (slice_set units at unit)
    (long_over (at * size) unit bytes fits ∙ image.long ∙ ap (λ n. n * size) (sym many))
    (ap (λ n. units_in size n (written_over (at * size) unit bytes)) many ∙ once ∙ ap (λ us. slice_set us at unit) (units_of size bytes units image))
