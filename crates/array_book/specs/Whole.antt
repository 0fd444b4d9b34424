-- When hands account for a history.
use Rattle.std.specs.Prelude.{◌≡◌, ◌≢◌, ℕ, ◌==◌, ◌<◌, List, [], ◌∷◌, Bool, true, false, Option, Some, None, IfNone}
use Rattle.std.specs.List.{list_any}
use Rattle.history.specs.declared.view.Entry.{Entry}
use Rattle.history.specs.Entries.{Carried, Course, IsCoherent}
use Rattle.slot_tables.specs.Views.{ArrayView, key_at}
use Rattle.step_core.specs.Headline.{ReadsThrough}
use Rattle.array_book.specs.Acts.{Act, IsEndOf}
use Rattle.array_book.specs.OneRun.{IsOneRun}

-- the history agrees with each of these hands
abbrev pub AreWhole : Course Act → List (Carried Act) → Type 0
AreWhole keeper [] = Unit {0}
AreWhole keeper (hand ∷ hands) = IsCoherent keeper hand × AreWhole keeper hands

-- The array is at the end of one run of the flat machine, from a state that the array of its beginning shows, and its map is the map
-- of the records of that run. Its drives have at the newest place of each block, unless that slot is gone, the content of the block's
-- last write in that run. The run's entries of each of these hands are exactly those that the hand noted, in its order; it begins
-- with all that the hand has seen, and has no entry of a hand that wasn't hired; `count` hands were.
pub record IsHistoryOf (count : ℕ) (hands : List (Carried Act)) (keeper : Course Act) (array : ArrayView) : Type 0 where
  pub ends : IsEndOf keeper.log array
  pub one : IsOneRun keeper.log array
  pub reads : (b : ℕ) → ReadsThrough array.parts one.last b (key_at array b)
  pub whole : AreWhole keeper hands
  pub hired : keeper.hired ≡ count

-- one of the hands has this number
abbrev pub has_number : List (Carried Act) → ℕ → Bool
has_number hands n = list_any (λ hand. hand.number == n) hands

-- every entry is of one of these hands
abbrev pub AreTheirs : List (Entry Act) → List (Carried Act) → Type 0
AreTheirs [] hands = Unit {0}
AreTheirs (e ∷ es) hands = (has_number hands e.by ≡ true) × AreTheirs es hands

-- the lowest number below `hired` that no hand has; 0 where there is no hand
abbrev pub IsLowestMissing : ℕ → List (Carried Act) → Option ℕ → Type 0
IsLowestMissing hired hands None = (hands ≢ []) × ((n : ℕ) → n < hired → has_number hands n ≡ true)
IsLowestMissing hired hands (Some m) = (has_number hands m ≡ false) × ((n : ℕ) → n < m → has_number hands n ≡ true) × ((hands ≢ []) → m < hired)

-- which hand that was hired isn't among these; where it is none, every entry of the history is of one of these hands
abbrev pub IsMissing : Course Act → List (Carried Act) → Option ℕ → Type 0
IsMissing keeper hands r = IsLowestMissing keeper.hired hands r × IfNone r (AreTheirs keeper.log hands)
