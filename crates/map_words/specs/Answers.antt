-- How the results of `take` and `find` relate to what their Taker took and found.
use Rattle.std.specs.Prelude.{◌≡◌, ℕ, ◌<◌, ◌≤◌, List, Option, Some, None, Contains, max, [], ◌∷◌, ◌++◌}
use Rattle.map_join.specs.declared.records.Record.{Record}
use Rattle.map_join.specs.Record.{key_of}
use Rattle.map_words.specs.declared.view.Found.{Found}
use Rattle.map_words.specs.declared.view.View.{View}
use Rattle.map_words.specs.TakeRule.{knows, found_at, DecodesTo, IsLeft}

-- this key is at least that of every record of the block that the Taker took, and at least every key of it that it found
pub record IsUpperBound (taker : View) (block key : ℕ) : Type 0 where
  pub taken : (r : Record) → Contains taker.taken r → r.block ≡ block → key_of r ≤ key
  pub found : (f : Found) → Contains taker.found f → f.block ≡ block → f.key ≤ key

-- this number is the greatest key among the records of the block, or 0 where there is none
pub record IsGreatestKey (records : List Record) (block key : ℕ) : Type 0 where
  pub reported : 0 < key → (r : Record) × Contains records r × DecodesTo block key r
  pub most : (r : Record) → Contains records r → r.block ≡ block → key_of r ≤ key

-- A step among all calls of `take` and `find`, which this Taker has: it found the key of a record taken or 0, exactly what the
-- steps of earlier times had left at its block, and it left the key of a record taken or 0.
pub record IsExact (taker : View) (f : Found) : Type 0 where
  pub found : IsLeft (Contains taker.found) f.block f.time f.key
  pub known : 0 < f.key → (r : Record) × Contains taker.taken r × DecodesTo f.block f.key r
  pub left : 0 < f.left → (r : Record) × Contains taker.taken r × DecodesTo f.block f.left r

-- all steps of the Taker at this block are exact
abbrev pub AreExact : View → ℕ → Type 0
AreExact taker block = (f : Found) → Contains taker.found f → f.block ≡ block → IsExact taker f

-- one step more, which took this record, found this key, and left the greater of the two
abbrev pub HasTaken : View → Record → ℕ → View → Type 0
HasTaken before r found after = (time : ℕ)
    × (after ≡ knows before.share (before.taken ++ r ∷ []) (before.found ++ found_at r.block time found (max found (key_of r)) ∷ []))

-- one step more, which found this key at this block and left it there
abbrev pub HasFound : View → ℕ → ℕ → View → Type 0
HasFound before block found after = (time : ℕ)
    × (after ≡ knows before.share before.taken (before.found ++ found_at block time found found ∷ []))

-- the key of a record, or 0 of none
abbrev pub key_or_zero : Option Record → ℕ
key_or_zero None = 0
key_or_zero (Some r) = key_of r
