-- Which of some groups has the fewest or the most live slots, and which the greatest rank.
use Rattle.std.specs.Prelude.{◌≡◌, ◌≢◌, ◌⊎◌, ℕ, ◌+◌, ◌*◌, ◌<◌, ◌≤◌, Option, Some, None, List, length, slice_index}
use Rattle.cleaner.specs.declared.choice.Ranked.{Ranked}

-- of the groups that are offered the one of fewest live slots, and of several such the lowest
pub record IsFewest (offers : ℕ → ℕ → Type 0) (group live : ℕ) : Type 0 where
  pub offered : offers group live
  pub best : (other count : ℕ) → offers other count → (live < count) ⊎ ((live ≡ count) × (group ≤ other))

-- of the groups that are offered the one of most live slots, and of several such the lowest
pub record IsMost (offers : ℕ → ℕ → Type 0) (group live : ℕ) : Type 0 where
  pub offered : offers group live
  pub best : (other count : ℕ) → offers other count → (count < live) ⊎ ((live ≡ count) × (group ≤ other))

-- the ranks of sixteen groups in turn
pub record IsRankRow (rank : ℕ → ℕ) (row : ℕ) (lanes : List ℕ) : Type 0 where
  pub many : length lanes ≡ 16
  pub each : (lane : ℕ) → lane < 16 → slice_index lanes lane ≡ rank (16 * row + lane)

-- no other group has a greater rank, nor a lower one the same
abbrev pub IsNoBetter : (ℕ → ℕ) → ℕ → ℕ → ℕ → Type 0
IsNoBetter rank group value other = (rank other < value) ⊎ ((rank other ≡ value) × (group ≤ other))

-- of all groups but the one that is left out the one of greatest rank, at least 1, and of several such the lowest
pub record IsTopRanked (rank : ℕ → ℕ) (left_out : Option ℕ) (group value : ℕ) : Type 0 where
  pub low : group < 512
  pub other : left_out ≢ Some group
  pub is : rank group ≡ value
  pub some : 0 < value
  pub best : (other : ℕ) → other < 512 → left_out ≢ Some other → IsNoBetter rank group value other

-- none exactly where every rank is 0, but that of the group that is left out
abbrev pub IsChoice : (ℕ → ℕ) → Option ℕ → Option Ranked → Type 0
IsChoice rank left_out None = (other : ℕ) → other < 512 → left_out ≢ Some other → rank other ≡ 0
IsChoice rank left_out (Some best) = IsTopRanked rank left_out best.group best.rank

-- the best of the groups below a bound, for loops; of value 0 where there is none
pub record IsBestTo (rank : ℕ → ℕ) (left_out : Option ℕ) (bound group value : ℕ) : Type 0 where
  pub below : 0 < value → group < bound
  pub other : 0 < value → left_out ≢ Some group
  pub is : 0 < value → rank group ≡ value
  pub first : group ≤ bound
  pub best : (other : ℕ) → other < bound → left_out ≢ Some other → IsNoBetter rank group value other

-- the group, where its rank is greater and it isn't left out, or else the best so far
abbrev pub IsBetter : Option ℕ → ℕ → ℕ → Ranked → Ranked → Type 0
IsBetter left_out group rank best result =
    ((best.rank < rank) × (left_out ≢ Some group) × (result ≡ record { group = group; rank = rank }))
    ⊎ (((left_out ≢ Some group) → rank ≤ best.rank) × (result ≡ best))
