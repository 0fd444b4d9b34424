-- A record of the journal: a head and a batch's bytes. The head has how many bytes the batch has, and how many of these aren't 0.
-- Each number has nine bytes, seven bits in each, the lowest first, with 128 added: so no byte of a head is 0.
use Rattle.std.specs.Prelude.{◌≡◌, ◌++◌, length, ◌+◌, ◌-◌, ◌*◌, ◌/◌, ◌%◌, ◌==◌, ◌&&◌, nat_le, if◌then◌else◌, Bool, true, ℕ, zero, suc, List, [], ◌∷◌}
use Rattle.extent_groups.specs.Planned.{Intended}
use Rattle.vault.specs.Coding.{decoded, IsCode}
use Rattle.file_vault.specs.Folders.{Bytes, part}

-- a number in so many bytes
abbrev pub digits : ℕ → ℕ → List ℕ
digits zero n = []
digits (suc count) n = (128 + n % 128) ∷ digits count (n / 128)

-- the number that such bytes are
abbrev pub from_digits : List ℕ → ℕ
from_digits [] = 0
from_digits (b ∷ bs) = (b - 128) + 128 * from_digits bs

-- bytes that may be a number's
abbrev pub are_digits : List ℕ → Bool
are_digits [] = true
are_digits (b ∷ bs) = nat_le 128 b && are_digits bs

-- 1 for a byte that isn't 0
abbrev pub one_unless_zero : ℕ → ℕ
one_unless_zero b = if b == 0 then 0 else 1

-- how many bytes aren't 0
abbrev pub nonzero : List ℕ → ℕ
nonzero [] = 0
nonzero (b ∷ bs) = one_unless_zero b + nonzero bs

-- the numbers of the head at a place: how long the batch's bytes are, and how many of them aren't 0
abbrev pub length_at : Bytes → ℕ → ℕ
length_at f at = from_digits (part f at 9)

abbrev pub nonzero_at : Bytes → ℕ → ℕ
nonzero_at f at = from_digits (part f (at + 9) 9)

-- the batch's bytes, and the place of the next record
abbrev pub body_at : Bytes → ℕ → List ℕ
body_at f at = part f (at + 18) (length_at f at)

abbrev pub next_at : Bytes → ℕ → ℕ
next_at f at = at + 18 + length_at f at

-- a record at a place is whole
abbrev pub is_whole : Bytes → ℕ → Bool
is_whole f at = are_digits (part f at 18) && (nonzero (body_at f at) == nonzero_at f at)

-- a batch's record: a head, and its bytes
pub record IsBatchRecord (bytes : List ℕ) (batch : List Intended) : Type 0 where
  pub body : List ℕ
  pub is : bytes ≡ (digits 9 (length body) ++ digits 9 (nonzero body)) ++ body
  pub code : IsCode body
  pub back : decoded body ≡ batch
