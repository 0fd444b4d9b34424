-- The claims of an array that was put together by a map.
use Rattle.std.proofs.Common.{◌≡◌, ℕ, ◌<◌, List, refl, ◌∙◌, arith}
use Rattle.map_join.specs.Record.{record_of}
use Rattle.slot_tables.specs.Views.{Kept, Nothing, Pending, Moving, Newest, Unmade, ArrayView, kept_at}
use Rattle.slot_tables.specs.Adopted.{IsKeptByMap}
use Rattle.step_core.specs.Claims.{how_many, claims_in, AreClaimsOf, AreOfPlaces}

-- they are those of the map's places, one of each
pub claims_of_places : {C : Type 0} (names : C → ℕ) (claims : List C) (a : ArrayView) (M : ℕ → ℕ) → ((s : ℕ) → IsKeptByMap M s (kept_at a s))
    → AreClaimsOf names a claims → AreOfPlaces names M claims
claims_of_places {C} names claims a M placed are = record {
  one = λ b some. are (place b) ∙ single b some (kept_at a (place b)) (placed (place b));
  only = λ slot some. found slot some (kept_at a slot) (placed slot) (are slot);
}
  where
    place : ℕ → ℕ
    place b = (record_of b (M b)).place

    single : (b : ℕ) → 0 < M b → (kept : Kept) → IsKeptByMap M (place b) kept → claims_in kept ≡ 1
    single b some Nothing none = absurd (none b some refl)
    single b some (Pending k) e = absurd e
    single b some Unmade e = absurd e
    single b some (Moving r k) e = absurd e
    single b some (Newest c) e = refl

    found : (slot : ℕ) → 0 < how_many names claims slot → (kept : Kept) → IsKeptByMap M slot kept → how_many names claims slot ≡ claims_in kept
        → (b : ℕ) × (0 < M b) × ((record_of b (M b)).place ≡ slot)
    found slot some Nothing none e = absurd (omega (arith, some, e))
    found slot some (Pending k) reports e = absurd reports
    found slot some Unmade reports e = absurd reports
    found slot some (Moving r k) reports e = absurd reports
    found slot some (Newest b) reports e = (b, reports.0, reports.1)
