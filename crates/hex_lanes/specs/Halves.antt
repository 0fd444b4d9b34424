-- Half bytes, of which two make a byte.
use Rattle.std.specs.Prelude.{ℕ, List, [], ◌∷◌, ◌+◌, ◌*◌, ◌/◌, ◌%◌, unwrap_or}
use Rattle.hex.specs.Hex.{hex_digit_value}

-- the value of the digit c, and 255 where c is none
abbrev pub value_or_more : ℕ → ℕ
value_or_more c = unwrap_or (hex_digit_value c) 255

-- the bytes of pairs of half bytes, the high ones first
abbrev pub joined_halves : List ℕ → List ℕ
joined_halves [] = []
joined_halves (high ∷ []) = []
joined_halves (high ∷ low ∷ rest) = (high * 16 + low) ∷ joined_halves rest

-- the half bytes of bytes, the high ones first
abbrev pub halves : List ℕ → List ℕ
halves [] = []
halves (byte ∷ rest) = byte / 16 ∷ byte % 16 ∷ halves rest
