-- Picked slots of groups.
use Rattle.std.proofs.Common.{◌≡◌, ℕ, List, ◌+◌, ◌*◌, ◌/◌, ◌%◌, ◌<◌, ◌≤◌, length, subst, arith, ◌↔◌}
use Rattle.map_join.specs.Live.{IsLiveIn, IsLiveCount}
use Rattle.map_join.specs.Lists.{Lists, ListsBelow}
use Rattle.map_join.proofs.Rising.{below_all, below_skip, count_none, count_zero}
use Rattle.extent_groups.specs.declared.class.Class.{Class}
use Rattle.extent_groups.specs.declared.class.Class.TheVariants.{Parity}
use Rattle.extent_groups.specs.Groups.{Groups}
use Rattle.extent_groups.specs.Stores.{IsSlotOf}
use Rattle.extent_groups.proofs.Bounds.{made_low}
use Rattle.migrator.specs.Picking.{IsPicked}
use Rattle.migrator.specs.Slots.{IsDeadGroup}

-- a parity group is idle where none of its slots is counted as live, and none is counted where it is idle
module _ (groups : Groups) (keys : ℕ → ℕ) (group slots count : ℕ) (just : (slot : ℕ) → slot / 128 ≡ group → IsSlotOf Parity groups slot ↔ (slot % 128 < slots)) where
  pub none_counted : IsLiveCount keys group slots count → count ≡ 0 → IsDeadGroup groups keys group
  none_counted counted zero slot is own live =
      count_zero (IsLiveIn keys group slots) (subst (IsLiveCount keys group slots) zero counted) slot (record { own = own; among = (just slot own).0 is; live = live })

  pub idle_counts : IsLiveCount keys group slots count → IsDeadGroup groups keys group → count ≡ 0
  idle_counts counted idle = count_none (IsLiveIn keys group slots) count counted (λ slot so. idle slot ((just slot so.own).1 so.among) so.own so.live)

-- lists of picked slots, group by group
module _ (class : Class) (groups : Groups) (group_is slot_is : ℕ → Type 0) where
  abbrev pub Picked : ℕ → Type 0
  Picked = IsPicked class groups group_is slot_is

  -- a group without a picked slot adds nothing
  pub none_here : (n : ℕ) (xs : List ℕ) → ((s : ℕ) → s / 128 ≡ n → Picked s → ⊥) → ListsBelow Picked (128 * n) xs → ListsBelow Picked (128 * (n + 1)) xs
  none_here n xs none = below_skip Picked (128 * n) (128 * (n + 1)) xs (omega arith) (λ s low high p. none s (omega (arith, low, high)) p)

  -- what is listed of all groups below 512 is all that is picked
  pub all_low : (n : ℕ) (xs : List ℕ) → length groups.table ≡ 512 → 512 ≤ n → ListsBelow Picked (128 * n) xs → Lists Picked xs
  all_low n xs long past = below_all Picked (128 * n) xs (λ s p. let low = made_low groups (s / 128) class long p.slot_of.made in omega (arith, low, past))
