-- The digest of a unit: Fletcher-4 sums, which begin with the unit's place.
use Rattle.std.specs.Prelude.{◌+◌, ◌*◌, ◌%◌, ◌/◌, ◌^◌, ◌++◌, nat_lt, if◌then◌else◌, ℕ, zero, suc, List, [], ◌∷◌, length, get_or}
use Rattle.std.specs.Int.{w32, w64, to_le_bytes, from_le_bytes}
use Rattle.unit_digest.specs.declared.sums.Sums.{Sums}

-- the sums before the first word; the first isn't 0, and differs at each place
abbrev pub first_sums : ℕ → ℕ → Sums
first_sums drive address = record { first = 2 ^ 32 * drive + address + 1; second = 0; third = 0; fourth = 0 }

-- each sum with the one before it added, modulo 2^64
abbrev pub with_word : Sums → ℕ → Sums
with_word s w =
    let first = (s.first + w) % 2 ^ 64 in
    let second = (s.second + first) % 2 ^ 64 in
    let third = (s.third + second) % 2 ^ 64 in
    record { first = first; second = second; third = third; fourth = (s.fourth + third) % 2 ^ 64 }

-- the word of an index: four bytes, the lowest first, zeros past the end
abbrev pub word : List ℕ → ℕ → ℕ
word unit i = from_le_bytes w32 (get_or unit (4 * i) 0 ∷ get_or unit (4 * i + 1) 0 ∷ get_or unit (4 * i + 2) 0 ∷ get_or unit (4 * i + 3) 0 ∷ [])

-- the sums over the first words
abbrev pub sums_over : Sums → List ℕ → ℕ → Sums
sums_over s unit zero = s
sums_over s unit (suc n) = with_word (sums_over s unit n) (word unit n)

-- how many words a unit has, the last perhaps with fewer bytes
abbrev pub words_of : ℕ → ℕ
words_of length = if nat_lt (4 * (length / 4)) length then length / 4 + 1 else length / 4

-- sums as bytes
abbrev pub digest_bytes : Sums → List ℕ
digest_bytes s = to_le_bytes w64 s.first ++ (to_le_bytes w64 s.second ++ (to_le_bytes w64 s.third ++ to_le_bytes w64 s.fourth))

-- the digest of a unit at an address of a drive
unfoldable pub digest : ℕ → ℕ → List ℕ → List ℕ
digest drive address unit = digest_bytes (sums_over (first_sums drive address) unit (words_of (length unit)))
