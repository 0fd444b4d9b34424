-- Live slots and holes of parity groups.
use Rattle.std.specs.Prelude.{◌≡◌, ℕ, ◌/◌, ◌<◌, ◌≤◌, Some, List, length, slice_index}
use Rattle.map_join.specs.Lists.{IsCount}
use Rattle.map_join.specs.Live.{IsLive}
use Rattle.extent_groups.specs.declared.class.Class.TheVariants.{Parity}
use Rattle.extent_groups.specs.Groups.{Groups, group_at, class_in}
use Rattle.extent_groups.specs.Stores.{IsSlotOf}

-- a live slot of a parity group
pub record IsLiveOf (groups : Groups) (keys : ℕ → ℕ) (group slot : ℕ) : Type 0 where
  pub slot_of : IsSlotOf Parity groups slot
  pub own : slot / 128 ≡ group
  pub live : IsLive keys slot

-- a hole: a slot of a parity group that isn't live
pub record IsHoleOf (groups : Groups) (keys : ℕ → ℕ) (group slot : ℕ) : Type 0 where
  pub slot_of : IsSlotOf Parity groups slot
  pub own : slot / 128 ≡ group
  pub hole : IsLive keys slot → ⊥

-- a made parity group, and how many of its slots are live
pub record HasLive (groups : Groups) (keys : ℕ → ℕ) (group live : ℕ) : Type 0 where
  pub made : class_in (group_at groups group) ≡ Some Parity
  pub count : IsCount (IsLiveOf groups keys group) live

-- a table of the 512 groups that has the number of live slots of each made parity group
pub record AreLiveCounts (groups : Groups) (keys : ℕ → ℕ) (counts : List ℕ) : Type 0 where
  pub many : length counts ≡ 512
  pub each : (group : ℕ) → group < 512 → class_in (group_at groups group) ≡ Some Parity → HasLive groups keys group (slice_index counts group)

-- the lowest number that has the property P
pub record IsLowest (P : ℕ → Type 0) (n : ℕ) : Type 0 where
  pub holds : P n
  pub least : (m : ℕ) → P m → n ≤ m
