-- Slots of a class of which a group and a slot are picked.
use Rattle.std.specs.Prelude.{◌≢◌, ℕ, ◌/◌, ◌%◌, ◌≤◌, Some}
use Rattle.map_join.specs.Live.{IsLive}
use Rattle.migrator.specs.Slots.{End, IsDeadGroup}
use Rattle.extent_groups.specs.declared.class.Class.{Class}
use Rattle.extent_groups.specs.Groups.{Groups}
use Rattle.extent_groups.specs.Stores.{IsSlotOf}

-- a slot of a made group of this class; both it and its group are picked
pub record IsPicked (class : Class) (groups : Groups) (group_is slot_is : ℕ → Type 0) (slot : ℕ) : Type 0 where
  pub slot_of : IsSlotOf class groups slot
  pub group_too : group_is (slot / 128)
  pub slot_too : slot_is slot

-- a slot from an index on that isn't live; it may have a holder
pub record IsFreeFrom (next : ℕ) (keys : ℕ → ℕ) (slot : ℕ) : Type 0 where
  pub from : next ≤ slot % 128
  pub free : IsLive keys slot → ⊥

-- a group that isn't the write group, and has no live slot
pub record IsOtherIdle (end : End) (groups : Groups) (keys : ℕ → ℕ) (group : ℕ) : Type 0 where
  pub other : end.group ≢ Some group
  pub idle : IsDeadGroup groups keys group
