-- The first free slot where the log goes on.
use Rattle.std.specs.Prelude.{◌≡◌, ◌⊎◌, ℕ, ◌≤◌, Option, Some, None}
use Rattle.extent_groups.specs.declared.class.Class.{Class}
use Rattle.extent_groups.specs.declared.class.Class.TheVariants.{Parity}
use Rattle.extent_groups.specs.Groups.{Groups}
use Rattle.extent_groups.specs.Stores.{IsSlotOf}
use Rattle.migrator.specs.Slots.{End, IsTailSlot, IsFresh}
use Rattle.migrator.specs.Picking.{IsPicked, IsFreeFrom}

-- the lowest number that has the property P
pub record IsLowest (P : ℕ → Type 0) (n : ℕ) : Type 0 where
  pub holds : P n
  pub least : (m : ℕ) → P m → n ≤ m

-- the lowest number that has the property P, or none where none has it
abbrev pub IsFirst : (ℕ → Type 0) → Option ℕ → Type 0
IsFirst P None = (n : ℕ) → P n → ⊥
IsFirst P (Some n) = IsLowest P n

-- a free slot of the write group where the log goes on, and a free one of a group where the log can start over
abbrev pub IsFreeFollowing : End → Groups → (ℕ → ℕ) → (ℕ → Type 0) → ℕ → Type 0
IsFreeFollowing end groups keys free slot = IsTailSlot end groups keys slot × free slot

abbrev pub IsFreeFresh : End → Groups → (ℕ → ℕ) → (ℕ → Type 0) → ℕ → Type 0
IsFreeFresh end groups keys free slot = IsFresh end groups keys slot × free slot

-- the lowest of the first kind, or of the second where there is none of the first
abbrev pub IsFirstAppend : End → Groups → (ℕ → ℕ) → (ℕ → Type 0) → Option ℕ → Type 0
IsFirstAppend end groups keys free None = (slot : ℕ) → IsTailSlot end groups keys slot ⊎ IsFresh end groups keys slot → free slot → ⊥
IsFirstAppend end groups keys free (Some slot) =
    IsLowest (IsFreeFollowing end groups keys free) slot
    ⊎ (((other : ℕ) → IsFreeFollowing end groups keys free other → ⊥) × IsLowest (IsFreeFresh end groups keys free) slot)

-- a picked slot that is free
pub record IsFreePick (class : Class) (groups : Groups) (group_is slot_is free : ℕ → Type 0) (slot : ℕ) : Type 0 where
  pub picked : IsPicked class groups group_is slot_is slot
  pub is_free : free slot

-- a slot of the write group, which is a parity group, from the log's next index on, that isn't live and that `free` says is
-- free: in most plans, one without a holder
abbrev pub FreeAtTail : End → Groups → (ℕ → ℕ) → (ℕ → Type 0) → ℕ → Type 0
FreeAtTail end groups keys free = IsFreePick Parity groups (λ group. end.group ≡ Some group) (IsFreeFrom end.next keys) free

-- a free slot of a parity group
abbrev pub IsFreeParity : Groups → (ℕ → Type 0) → ℕ → Type 0
IsFreeParity groups free slot = IsSlotOf Parity groups slot × free slot

-- where there is room for a block that leaves the mirrored level: the first free slot where the log goes on, or the lowest free slot of
-- all parity groups where the log goes on nowhere; none only where no parity slot is free
abbrev pub IsFirstRoom : End → Groups → (ℕ → ℕ) → (ℕ → Type 0) → Option ℕ → Type 0
IsFirstRoom end groups keys free None = (slot : ℕ) → IsFreeParity groups free slot → ⊥
IsFirstRoom end groups keys free (Some slot) =
    IsFirstAppend end groups keys free (Some slot)
    ⊎ (IsFirstAppend end groups keys free None × IsLowest (IsFreeParity groups free) slot)
