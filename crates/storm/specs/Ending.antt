-- What a storm ends with, stated over what its workers took and over its array; and the one order of all that its workers did.
use Rattle.std.specs.Prelude.{◌≡◌, ℕ, ◌+◌, ◌++◌, List, [], ◌∷◌, None}
use Rattle.map_join.specs.Maps.{IsMapOf}
use Rattle.map_words.specs.declared.view.View.{View}
use Rattle.slot_tables.specs.Views.{ArrayView, key_at}
use Rattle.history.specs.Entries.{Carried, Course, entry}
use Rattle.array_book.specs.Acts.{Act, Opens}
use Rattle.array_book.specs.Whole.{IsHistoryOf, IsMissing}
use Rattle.array_book.specs.declared.settle_fault.SettleFault.TheVariants as settle_fault
use Rattle.array_book.specs.Settling.{taken_by, shares_of, IsUnsettled}
use Rattle.storm.specs.Rounds.{HaveAllPlayed}
use Rattle.storm.specs.declared.outcome.Storm.{Storm}
use Rattle.storm.specs.declared.outcome.Storm.TheVariants.{Agreed, Differs}

-- Given what the Takers of the even and of the odd controller show, and the array's keys. Agreed: the map of all that they took is
-- the array's. Differs: their shares are whole, and this is the lowest block of which it isn't.
abbrev pub IsEnding : List View → List View → (ℕ → ℕ) → Storm → Type 0
IsEnding even odd keys (Agreed tally) = IsMapOf (taken_by even ++ taken_by odd) keys
IsEnding even odd keys (Differs block) = IsUnsettled (shares_of even) (shares_of odd) (taken_by even ++ taken_by odd) keys (settle_fault.Differs block)

-- a new array of 16 blocks with payloads of this size
pub record IsFreshArray (payload : ℕ) (array : ArrayView) : Type 0 where
  pub log : array.log ≡ []
  pub blocks : array.parts.groups.blocks ≡ 16
  pub payloads : array.parts.groups.payload ≡ payload

-- the first of these hands has seen the history as it began with this array, and nothing more
abbrev pub HaveBegun : List (Carried Act) → ArrayView → Type 0
HaveBegun [] array = ⊥
HaveBegun (hand ∷ hands) array = hand.seen ≡ entry 0 (Opens array) ∷ []

-- A storm of a number of hands, with a number of rounds each, that ended in this way. There is an array at its end, to which
-- one run of the flat machine leads from a new array of 16 blocks with payloads of this size. All hands came back, so each
-- entry of the run is one of theirs, and each hand's entries are those that its worker's rounds made, in its order. The map of
-- the run's records is the array's, and so the storm ended as it says.
pub record HasStormed (count payload rounds : ℕ) (storm : Storm) : Type 0 where
  pub array : ArrayView
  pub keeper : Course Act
  pub hands : List (Carried Act)
  pub history : IsHistoryOf count hands keeper array
  pub missing : IsMissing keeper hands None
  pub first : IsFreshArray payload history.one.first
  pub played : HaveAllPlayed payload rounds hands
  pub even : List View
  pub odd : List View
  pub ending : IsEnding even odd (key_at array) storm
