-- What all that ended took, and when a Book is settled.
use Rattle.std.specs.Prelude.{◌≡◌, ◌≢◌, ◌⊎◌, ℕ, ◌+◌, List, [], ◌∷◌, ◌++◌}
use Rattle.map_join.specs.declared.records.Record.{Record}
use Rattle.map_join.specs.Maps.{IsMapOf, IsLowestDifference}
use Rattle.map_words.specs.declared.view.View.{View}
use Rattle.map_words.specs.TakeRule.{whole}
use Rattle.array_book.specs.declared.settle_fault.SettleFault.{SettleFault}
use Rattle.array_book.specs.declared.settle_fault.SettleFault.TheVariants.{Differs, Memory, NotWhole}

-- the records of these views, one view after the other
abbrev pub taken_by : List View → List Record
taken_by [] = []
taken_by (v ∷ vs) = v.taken ++ taken_by vs

-- their shares, added up
abbrev pub shares_of : List View → ℕ
shares_of [] = 0
shares_of (v ∷ vs) = v.share + shares_of vs

-- Why a Book isn't settled, given the shares of both controllers that came, all that was taken, and the array's keys. NotWhole:
-- the share of the even controller isn't the whole, or else that of the odd one. Differs: both are, and this is the lowest block of
-- which the map of all that was taken isn't the array's. Memory: both are.
abbrev pub IsUnsettled : ℕ → ℕ → List Record → (ℕ → ℕ) → SettleFault → Type 0
IsUnsettled even odd taken keys (NotWhole reported) = ((even ≢ whole) × (reported ≡ even)) ⊎ ((even ≡ whole) × (odd ≢ whole) × (reported ≡ odd))
IsUnsettled even odd taken keys (Differs block) = (even ≡ whole) × (odd ≡ whole) × ((M : ℕ → ℕ) → IsMapOf taken M → IsLowestDifference M keys block)
IsUnsettled even odd taken keys Memory = (even ≡ whole) × (odd ≡ whole)

-- why the words of one controller aren't closed
abbrev pub IsUnclosed : ℕ → SettleFault → Type 0
IsUnclosed share (NotWhole reported) = (share ≢ whole) × (reported ≡ share)
IsUnclosed share (Differs block) = ⊥
IsUnclosed share Memory = share ≡ whole

-- why a map isn't found to be the array's: this is the lowest block of which they differ, or out of memory
abbrev pub IsDiffering : (ℕ → ℕ) → (ℕ → ℕ) → SettleFault → Type 0
IsDiffering M keys (NotWhole reported) = ⊥
IsDiffering M keys (Differs block) = IsLowestDifference M keys block
IsDiffering M keys Memory = Unit {0}
