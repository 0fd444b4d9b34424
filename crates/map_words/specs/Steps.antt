-- What holds for each kind of atomic step, stated over the step, the seat before, the number found, and the seat after.
use Rattle.std.specs.Prelude.{◌≡◌, ℕ, ◌+◌, ◌-◌, ◌/◌, ◌^◌, ◌<◌, ◌≤◌, [], ◌++◌}
use Rattle.atomic_table.specs.Table.{Me, Step}
use Rattle.map_join.specs.declared.records.Record.{Record}
use Rattle.map_join.specs.Record.{IsRecord, key_of}
use Rattle.map_words.specs.declared.view.View.{View}
use Rattle.map_words.specs.Places.{word_of}
use Rattle.map_words.specs.TakeRule.{knows, whole}
use Rattle.map_words.specs.Answers.{IsUpperBound, IsGreatestKey, AreExact, HasTaken, HasFound}

-- the number is 0, or at least 2^32, the least key of a record
abbrev pub IsKeyOrNone : ℕ → Type 0
IsKeyOrNone key = 0 < key → 2 ^ 32 ≤ key

-- a take: the record of this word's block and of this key is taken, the old word is found and at least all before,
-- and the greater of the two is left
abbrev pub IsTakeStep : {S : Type 0} → Step S → Me S View → ℕ → Me S View → Type 0
IsTakeStep s before found after = (r : Record) → IsRecord r → word_of r.block ≡ s.word → key_of r ≡ s.first
    → IsUpperBound before.0 r.block found × HasTaken before.0 r found after.0 × (after.1 ≡ [])

-- a find: the word is found, at least all before, and left
abbrev pub Saw : {S : Type 0} → Step S → Me S View → ℕ → Me S View → Type 0
Saw s before found after = (block : ℕ) → word_of block ≡ s.word
    → IsUpperBound before.0 block found × IsKeyOrNone found × HasFound before.0 block found after.0 × (after.1 ≡ [])

-- a load by the seat with the whole share: the word is the greatest key of its block among the records taken, nothing found
-- is above it, and each step on it found exactly what was there
abbrev pub Closed : {S : Type 0} → Step S → Me S View → ℕ → Me S View → Type 0
Closed s before found after = (after ≡ before)
    × ((block : ℕ) → word_of block ≡ s.word
    → IsGreatestKey before.0.taken block found × IsUpperBound before.0 block found × IsKeyOrNone found × AreExact before.0 block)

-- no seat has more than the whole share
abbrev pub Weighed : {S : Type 0} → Step S → Me S View → ℕ → Me S View → Type 0
Weighed s before found after = before.0.share ≤ whole

-- what a split leaves: all that is known, and the greater half of the share
abbrev pub kept_half : View → View
kept_half v = knows (v.share - v.share / 2) v.taken v.found

-- what a split gives: half of the share, rounded down
abbrev pub given_half : View → View
given_half v = knows (v.share / 2) [] []

-- two views added
abbrev pub both_views : View → View → View
both_views v w = knows (v.share + w.share) (v.taken ++ w.taken) (v.found ++ w.found)
