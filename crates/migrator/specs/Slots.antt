-- Lists of slots, and where the write log goes on.
use Rattle.std.specs.Prelude.{◌≡◌, ◌≢◌, ℕ, ◌+◌, ◌/◌, ◌%◌, ◌≤◌, Option, Some, None, List, ◌++◌}
use Rattle.map_join.specs.declared.records.Record.{Record}
use Rattle.map_join.specs.Record.{record_at}
use Rattle.map_join.specs.Lists.{Lists}
use Rattle.map_join.specs.Live.{IsLive}
use Rattle.extent_groups.specs.declared.class.Class.{Class}
use Rattle.extent_groups.specs.declared.class.Class.TheVariants.{Mirrored, Parity}
use Rattle.extent_groups.specs.Groups.{Groups, group_at, class_in}
use Rattle.extent_groups.specs.Stores.{IsSlotOf}

-- the class of the group in which an optional record lies
abbrev pub class_of_record : Groups → Option Record → Option Class
class_of_record groups None = None
class_of_record groups (Some r) = class_in (group_at groups (r.place / 128))

-- the newest place of a block is in a mirrored group
abbrev pub IsMirrored : Groups → (ℕ → ℕ) → ℕ → Type 0
IsMirrored groups keys block = class_of_record groups (record_at block (keys block)) ≡ Some Mirrored

-- all slots of mirrored groups, ascending
abbrev pub AreMirrorSlots : Groups → List ℕ → Type 0
AreMirrorSlots groups slots = Lists (λ s. IsSlotOf Mirrored groups s) slots

-- the end of the log: the write group, if any, and the next index there
pub record End : Type 0 where
  pub group : Option ℕ
  pub next : ℕ

-- nothing was appended yet
abbrev pub at_start : End
at_start = record { group = None; next = 0 }

-- a slot was appended
abbrev pub end_at : ℕ → End
end_at slot = record { group = Some (slot / 128); next = slot % 128 + 1 }

-- no slot of a parity group is live
abbrev pub IsDeadGroup : Groups → (ℕ → ℕ) → ℕ → Type 0
IsDeadGroup groups keys group = (slot : ℕ) → IsSlotOf Parity groups slot → slot / 128 ≡ group → IsLive keys slot → ⊥

-- a slot of the write group, where that is a parity group, from the next index on, that isn't live
pub record IsTailSlot (end : End) (groups : Groups) (keys : ℕ → ℕ) (slot : ℕ) : Type 0 where
  pub slot_of : IsSlotOf Parity groups slot
  pub own : end.group ≡ Some (slot / 128)
  pub from : end.next ≤ slot % 128
  pub free : IsLive keys slot → ⊥

-- a slot of another parity group, which has no live slot
pub record IsFresh (end : End) (groups : Groups) (keys : ℕ → ℕ) (slot : ℕ) : Type 0 where
  pub slot_of : IsSlotOf Parity groups slot
  pub other : end.group ≢ Some (slot / 128)
  pub idle : IsDeadGroup groups keys (slot / 128)

-- where the log goes on: in the write group first, and then in all groups where it can start over
abbrev pub AreAppendSlots : End → Groups → (ℕ → ℕ) → List ℕ → Type 0
AreAppendSlots end groups keys slots =
    (own fresh : List ℕ) × (slots ≡ own ++ fresh) × Lists (IsTailSlot end groups keys) own × Lists (IsFresh end groups keys) fresh
