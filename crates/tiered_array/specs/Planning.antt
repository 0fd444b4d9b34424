-- What the plans of an array choose, by its tables, the order of last writes and the end of its write log.
use Rattle.std.specs.Prelude.{ℕ, Option}
use Rattle.slot_tables.specs.Views.{ArrayView, key_at}
use Rattle.cleaner.specs.declared.moves.Move.{Move}
use Rattle.cleaner.specs.Plans.{IsPlugPlan, IsCleanPlan}
use Rattle.migrator.specs.Ages.{IsOldest}
use Rattle.migrator.specs.First.{IsFirstAppend}
use Rattle.migrator.specs.Slots.{IsMirrored}
use Rattle.unit_store.specs.Views.{lost_of}
use Rattle.tiered_array.specs.Room.{IsDueOf}
use Rattle.tiered_array.specs.declared.planner.Planner.{Planner}

-- the block in a mirrored group that was written longest ago, or none where no block is in one
abbrev pub IsOldestMirrored : ArrayView → Planner → Option ℕ → Type 0
IsOldestMirrored a p block = IsOldest p.ages.order (IsMirrored a.parts.groups (key_at a)) block

-- the block in a mirrored group that was written longest ago, of those that can be read where there are any
abbrev pub IsDueHere : ArrayView → Planner → Option ℕ → Type 0
IsDueHere a p block = IsDueOf p.ages.order a.parts.groups (lost_of a.parts) (key_at a) block

-- the first of these slots where the log goes on
abbrev pub IsNextAppend : ArrayView → Planner → (ℕ → Type 0) → Option ℕ → Type 0
IsNextAppend a p free slot = IsFirstAppend p.end a.parts.groups (key_at a) free slot

-- the plug, or none
abbrev pub IsPlugOf : ArrayView → Planner → Option Move → Type 0
IsPlugOf a p move = IsPlugPlan a.parts.groups (key_at a) p.end.group move

-- the clean, or none: into the first slot, held or not, where the log goes on
abbrev pub IsCleanOf : ArrayView → Planner → Option Move → Type 0
IsCleanOf a p move =
    (append : Option ℕ) × IsNextAppend a p (λ _. Unit {0}) append × IsCleanPlan a.parts.groups (key_at a) p.end.group append move
