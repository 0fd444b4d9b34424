-- Units of which only those that were written are kept in memory, side by side in the order of their first writes.
use Rattle.std.specs.Prelude.{◌≡◌, ◌≤◌, ◌<◌, ◌+◌, ◌*◌, ℕ, zero, suc, List, [], ◌∷◌, length, map, replicate, slice_index_or}
use Rattle.extents.specs.Units.{units_in}

-- the unit of a place: zeros at 0, and else the kept unit that the place counts from 1
abbrev pub thin_unit : ℕ → List (List ℕ) → ℕ → List ℕ
thin_unit size kept zero = replicate size 0
thin_unit size kept (suc number) = slice_index_or kept number []

-- the units at these places, where `stored` units are kept in the bytes
abbrev pub units_of : ℕ → ℕ → List ℕ → List ℕ → List (List ℕ)
units_of size stored bytes places = map (thin_unit size (units_in size stored bytes)) places

-- how many of the places name no kept unit
abbrev pub blanks : List ℕ → ℕ
blanks [] = 0
blanks (zero ∷ places) = suc (blanks places)
blanks (suc number ∷ places) = blanks places

-- `stored` of `count` units are kept, each named by one place, with room for all `count` units
pub record IsThin (size count stored capacity : ℕ) (bytes places : List ℕ) : Type 0 where
  pub small : size ≤ 131072
  pub many : length places ≡ count
  pub whole : length bytes ≡ stored * size
  pub room : count * size ≤ capacity
  pub spare : stored + blanks places ≡ count
  pub below : (at number : ℕ) → slice_index_or places at 0 ≡ suc number → number < stored
  pub apart : (at by number : ℕ) → slice_index_or places at 0 ≡ suc number → slice_index_or places by 0 ≡ suc number → at ≡ by
