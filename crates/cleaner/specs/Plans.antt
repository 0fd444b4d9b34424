-- Plugging, cleaning, and which group is empty.
use Rattle.std.specs.Prelude.{◌≡◌, ◌≢◌, ℕ, ◌/◌, ◌<◌, ◌≤◌, Option, Some, None}
use Rattle.map_join.specs.Live.{MapsTo}
use Rattle.extent_groups.specs.declared.class.Class.TheVariants.{Parity}
use Rattle.extent_groups.specs.Groups.{Groups, group_at, class_in, slots_in}
use Rattle.cleaner.specs.declared.moves.Move.{Move}
use Rattle.cleaner.specs.Counts.{IsLiveOf, IsHoleOf, HasLive, IsLowest}
use Rattle.cleaner.specs.Choosing.{IsFewest, IsMost}

-- a parity group, not the write group, with exactly `live` live slots, at least one, and at least one hole
pub record IsHoled (groups : Groups) (keys : ℕ → ℕ) (write : Option ℕ) (group live : ℕ) : Type 0 where
  pub has : HasLive groups keys group live
  pub other : write ≢ Some group
  pub some : 0 < live
  pub hole : live < slots_in groups.segments (group_at groups group)

-- another parity group, with exactly `live` live slots, at least one and at most `most`
pub record IsSource (groups : Groups) (keys : ℕ → ℕ) (target most group live : ℕ) : Type 0 where
  pub has : HasLive groups keys group live
  pub other : group ≢ target
  pub some : 0 < live
  pub few : live ≤ most

-- the fullest group with a hole, which is plugged
abbrev pub IsPlugTarget : Groups → (ℕ → ℕ) → Option ℕ → ℕ → ℕ → Type 0
IsPlugTarget groups keys write = IsMost (IsHoled groups keys write)

-- from the emptiest source's lowest live slot to the target's lowest hole
pub record IsPlug (groups : Groups) (keys : ℕ → ℕ) (write : Option ℕ) (target most source live : ℕ) (move : Move) : Type 0 where
  pub into : IsPlugTarget groups keys write target most
  pub out : IsFewest (IsSource groups keys target most) source live
  pub slot : IsLowest (IsLiveOf groups keys source) move.from
  pub block : MapsTo keys move.block move.from
  pub hole : IsLowest (IsHoleOf groups keys target) move.to

-- none exactly where there is no target, or the target has no source
abbrev pub IsPlugPlan : Groups → (ℕ → ℕ) → Option ℕ → Option Move → Type 0
IsPlugPlan groups keys write None =
    (target most source live : ℕ) → IsPlugTarget groups keys write target most → IsSource groups keys target most source live → ⊥
IsPlugPlan groups keys write (Some move) = (target most source live : ℕ) × IsPlug groups keys write target most source live move

-- the emptiest group with a hole, which is cleaned
abbrev pub IsCleaned : Groups → (ℕ → ℕ) → Option ℕ → ℕ → ℕ → Type 0
IsCleaned groups keys write = IsFewest (IsHoled groups keys write)

-- where nothing can be plugged, from its lowest live slot to where the log goes on, in another group
pub record IsClean (groups : Groups) (keys : ℕ → ℕ) (write append : Option ℕ) (group live : ℕ) (move : Move) : Type 0 where
  pub no_plug : IsPlugPlan groups keys write None
  pub out : IsCleaned groups keys write group live
  pub slot : IsLowest (IsLiveOf groups keys group) move.from
  pub block : MapsTo keys move.block move.from
  pub to : append ≡ Some move.to
  pub apart : move.to / 128 ≢ group

-- none exactly where something can be plugged, or no group can be cleaned, or the log goes on nowhere or in that group
abbrev pub IsCleanPlan : Groups → (ℕ → ℕ) → Option ℕ → Option ℕ → Option Move → Type 0
IsCleanPlan groups keys write append None =
    IsPlugPlan groups keys write None → (group live to : ℕ) → IsCleaned groups keys write group live → append ≡ Some to → to / 128 ≡ group
IsCleanPlan groups keys write append (Some move) = (group live : ℕ) × IsClean groups keys write append group live move

-- a parity group, not the write group, without live slots
pub record IsReclaimable (groups : Groups) (keys : ℕ → ℕ) (write : Option ℕ) (group : ℕ) : Type 0 where
  pub made : class_in (group_at groups group) ≡ Some Parity
  pub other : write ≢ Some group
  pub idle : (slot : ℕ) → IsLiveOf groups keys group slot → ⊥

-- the lowest of these, or none where there is none
abbrev pub IsEmptyGroup : Groups → (ℕ → ℕ) → Option ℕ → Option ℕ → Type 0
IsEmptyGroup groups keys write None = (group : ℕ) → IsReclaimable groups keys write group → ⊥
IsEmptyGroup groups keys write (Some group) = IsLowest (IsReclaimable groups keys write) group
