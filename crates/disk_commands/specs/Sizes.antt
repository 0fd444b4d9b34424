-- Sizes as words: digits, and K, M or G.
use Rattle.std.specs.Prelude.{◌≡◌, ◌⊎◌, ◌*◌, ◌-◌, ◌^◌, ◌++◌, ℕ, List, [], ◌∷◌, min}
use Rattle.std.specs.Str.Parse.{IsNumeral, digits_value}

-- what may come after the digits, and how many bytes one of it is
abbrev pub IsUnit : List ℕ → ℕ → Type 0
IsUnit [] bytes = bytes ≡ 1
IsUnit (letter ∷ []) bytes = ((letter ≡ 75) × (bytes ≡ 1024)) ⊎ (((letter ≡ 77) × (bytes ≡ 1048576)) ⊎ ((letter ≡ 71) × (bytes ≡ 1073741824)))
IsUnit (first ∷ (second ∷ more)) bytes = ⊥

-- a word of digits and a unit names so many bytes; 2^64 or more count as one fewer
pub record NamesSize (word : List ℕ) (size : ℕ) : Type 0 where
  pub digits : List ℕ
  pub letters : List ℕ
  pub unit : ℕ
  pub word_is : word ≡ digits ++ letters
  pub numeral : IsNumeral 10 digits
  pub unit_is : IsUnit letters unit
  pub size_is : size ≡ min (digits_value 10 digits * unit) (2 ^ 64 - 1)
