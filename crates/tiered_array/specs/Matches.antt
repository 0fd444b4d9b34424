-- When a world with what is kept next to it represents a flat state with the same.
use Rattle.std.specs.Prelude.{◌≡◌, ℕ, ◌<◌, length, Contains}
use Rattle.slot_tables.specs.Represents.{Represents}
use Rattle.slot_tables.specs.Views.{key_at}
use Rattle.tiered_array.specs.Hints.{IsHinted}
use Rattle.tiered_array.specs.Marking.{AreMarked}
use Rattle.tiered_array.specs.Steps.{IsFreeMirror, IsFreeHole}
use Rattle.tiered_array.specs.Tiered.{Tiered}
use Rattle.tiered_array.specs.Views.{TiersView}

-- the world represents the flat state; the order has a place for each block, has each block, and marks exactly those in mirrored
-- groups; and each free slot of a mirrored group is hinted, and each of a parity group is hinted as a hole
pub record RepresentsTiers (tiers : TiersView) (T : Tiered) : Type 0 where
  pub world : Represents tiers.world T.flat
  pub order : tiers.planner.ages.order ≡ T.order
  pub long : length T.order ≡ T.flat.groups.blocks
  pub each : (b : ℕ) → b < T.flat.groups.blocks → Contains T.order b
  pub end : tiers.planner.end ≡ T.end
  pub marked : length tiers.planner.ages.marks ≡ T.flat.groups.blocks
  pub marks : AreMarked tiers.planner.ages.marks T.flat.groups (key_at tiers.world.array)
  pub hints : (s : ℕ) → IsFreeMirror T.flat s → IsHinted tiers.hints s
  pub holes : (s : ℕ) → IsFreeHole T.flat s → IsHinted tiers.holes s
