-- Which parity groups have no live slot, by a table of counts.
use Rattle.std.specs.Prelude.{◌≡◌, ◌≢◌, ◌↔◌, ℕ, ◌<◌, Some, List, slice_index, if◌then◌else◌, nat_eq}
use Rattle.extent_groups.specs.declared.class.Class.TheVariants.{Parity}
use Rattle.extent_groups.specs.Groups.{Groups, group_at, class_in}
use Rattle.migrator.specs.Slots.{End, IsDeadGroup}

-- a table that has 0 for exactly those of the made parity groups that have no live slot
abbrev pub AreZeroIfIdle : Groups → (ℕ → ℕ) → List ℕ → Type 0
AreZeroIfIdle groups keys counts =
    (group : ℕ) → group < 512 → class_in (group_at groups group) ≡ Some Parity → (slice_index counts group ≡ 0) ↔ IsDeadGroup groups keys group

-- a group that isn't the write group, and has 0 in the table
pub record IsOtherZero (end : End) (counts : List ℕ) (group : ℕ) : Type 0 where
  pub other : end.group ≢ Some group
  pub zeroed : slice_index counts group ≡ 0

-- the slots of a group, where its count is 0
abbrev pub if_zero : ℕ → ℕ → ℕ
if_zero count slots = if nat_eq count 0 then slots else 0
