-- The plan that rebalances the drives' loads, and what a shift does to them.
use Rattle.std.specs.Prelude.{◌≡◌, ◌⊎◌, ℕ, ◌+◌, ◌*◌, ◌<◌, ◌≤◌, Bool, Option, Some, None, List, is_some, count_by}
use Rattle.std.specs.List.{sum_by}
use Rattle.extents.specs.Owners.{Owners, load_of, lowest_free_of}
use Rattle.extent_groups.specs.Groups.{Groups, IsMove}
use Rattle.rebalancer.specs.declared.shift.Shift.{Shift}
use Rattle.rebalancer.specs.Drives.{IsPresent, HasFreeExtent}
use Rattle.rebalancer.specs.Carrying.{member_on, CanGive}

-- the one drive may give an extent to the other: both are present, their loads at least two apart, and the other has room
pub record MayGive (owners : Owners) (lost : List Bool) (from to : ℕ) : Type 0 where
  pub giver : IsPresent owners lost from
  pub taker : HasFreeExtent owners lost to
  pub uneven : load_of owners to + 2 ≤ load_of owners from

-- a group may move from the one drive to the other
pub record IsAllowed (owners : Owners) (groups : Groups) (lost : List Bool) (from to g : ℕ) : Type 0 where
  pub drives : MayGive owners lost from to
  pub group : CanGive groups from to g

-- a pair of drives is considered before another: the greater load to give, then the lesser to take, then the lower drive
-- to give, then the lower to take
abbrev pub PairBefore : Owners → ℕ → ℕ → ℕ → ℕ → Type 0
PairBefore owners from to f t =
    (load_of owners f < load_of owners from)
    ⊎ ((load_of owners f ≡ load_of owners from) × ((load_of owners to < load_of owners t)
    ⊎ ((load_of owners to ≡ load_of owners t) × ((from < f) ⊎ ((from ≡ f) × (to < t))))))

-- an allowed shift of which no other comes before: neither another pair of drives, nor a lower group of the same pair; the
-- extent is the lowest free one
pub record IsBalanceShift (owners : Owners) (groups : Groups) (lost : List Bool) (from : ℕ) (s : Shift) : Type 0 where
  pub allowed : IsAllowed owners groups lost from s.to.drive s.group
  pub first : (f t h : ℕ) → IsAllowed owners groups lost f t h → PairBefore owners f t from s.to.drive → ⊥
  pub lowest : (h : ℕ) → CanGive groups from s.to.drive h → s.group ≤ h
  pub member : member_on groups s.group from ≡ Some s.member
  pub extent : lowest_free_of owners s.to.drive ≡ Some s.to.extent

-- none exactly where no shift is allowed
abbrev pub IsBalance : Owners → Groups → List Bool → Option Shift → Type 0
IsBalance owners groups lost None = (f t h : ℕ) → IsAllowed owners groups lost f t h → ⊥
IsBalance owners groups lost (Some s) = (from : ℕ) × IsBalanceShift owners groups lost from s

-- the sum of the squares of all drives' loads
abbrev pub sum_of_squares : Owners → ℕ
sum_of_squares owners = sum_by (λ row. count_by is_some row * count_by is_some row) owners.rows

-- a shift that is carried out lowers that sum by at least two
abbrev pub Evens : Groups → Owners → Shift → Type 0
Evens groups owners s =
    (after : Owners) → IsMove groups owners after s.group s.member s.to → sum_of_squares after + 2 ≤ sum_of_squares owners
