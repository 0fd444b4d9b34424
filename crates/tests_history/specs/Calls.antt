-- Calls that append bytes, and runs of them.
use Rattle.std.specs.Prelude.{◌≡◌, ℕ, ◌≤◌, ◌++◌, List, [], ◌∷◌, length}
use Rattle.history.specs.declared.view.Entry.{Entry}
use Rattle.history.specs.Entries.{Course, entry, entries_by}

-- an item was appended at a place
pub record Appended : Type 0 where
  pub item : List ℕ
  pub place : ℕ

abbrev pub appended : List ℕ → ℕ → Appended
appended item place = record { item = item; place = place }

-- from these bytes the calls of one thread lead to those: each item lies where the bytes before it end
abbrev pub AppendsAll : List ℕ → List (Entry Appended) → List ℕ → Type 0
AppendsAll bytes [] after = after ≡ bytes
AppendsAll bytes (e ∷ es) after = (e.what.place ≡ length bytes) × AppendsAll (bytes ++ e.what.item) es after

-- what lies under the lock
pub record Shelved : Type 0 where
  pub bytes : List ℕ
  pub course : Course Appended

-- the bytes are those of one run, whose calls are exactly two of hand 0, in this order, and two of hand 1
pub record AreOneRun (a b c d : Appended) (bytes : List ℕ) : Type 0 where
  pub log : List (Entry Appended)
  pub runs : AppendsAll [] log bytes
  pub first : entries_by 0 log ≡ entry 0 a ∷ entry 0 b ∷ []
  pub second : entries_by 1 log ≡ entry 1 c ∷ entry 1 d ∷ []
  pub only : (n : ℕ) → 2 ≤ n → entries_by n log ≡ []
