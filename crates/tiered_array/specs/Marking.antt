-- Which blocks are marked in the order of last writes: those that lie in mirrored groups.
use Rattle.std.specs.Prelude.{◌≡◌, ◌↔◌, ℕ, ◌<◌, ◌==◌, if◌then◌else◌, Bool, true, false, List, slice_set, Option, Some}
use Rattle.map_join.specs.declared.records.Record.{Record}
use Rattle.extent_groups.specs.declared.class.Class.{Class}
use Rattle.extent_groups.specs.declared.class.Class.TheVariants.{Mirrored}
use Rattle.extent_groups.specs.Groups.{Groups}
use Rattle.migrator.specs.Ages.{IsMarked, Marked, written}
use Rattle.migrator.specs.Slots.{class_of_record, IsMirrored}
use Rattle.flat_machine.specs.Flat.{Flat}
use Rattle.tiered_array.specs.Placing.{Put, Fresh, Again, PlaceCase}
use Rattle.tiered_array.specs.Steps.{order_after}
use Rattle.tiered_array.specs.Tiered.{Tiered}
use Rattle.tiered_array.specs.declared.outcome.Outcome.{Outcome}

-- exactly the blocks whose newest place is in a mirrored group are marked
abbrev pub AreMarked : List Bool → Groups → (ℕ → ℕ) → Type 0
AreMarked marks groups keys = (b : ℕ) → IsMarked marks b ↔ IsMirrored groups keys b

-- exactly the blocks below a bound whose newest place is in a mirrored group are marked, for loops
abbrev pub AreMarkedBelow : List Bool → Groups → (ℕ → ℕ) → ℕ → Type 0
AreMarkedBelow marks groups keys bound = (b : ℕ) → IsMarked marks b ↔ ((b < bound) × IsMirrored groups keys b)

-- whether a class is that of mirrored groups
abbrev pub is_mirrors : Option Class → Bool
is_mirrors (Some Mirrored) = true
is_mirrors _ = false

-- the order of last writes after a commit: a fresh content, whose record has no hop, is a write
abbrev pub order_noted : List ℕ → Record → List ℕ
order_noted order r = if r.hop == 0 then written order r.block else order

-- the commit of a record is noted: by the order of last writes, and by its block's mark
abbrev pub IsCommitNoted : Groups → Marked → Marked → Record → Type 0
IsCommitNoted groups before after r =
    (after.order ≡ order_noted before.order r) × (after.marks ≡ slice_set before.marks r.block (is_mirrors (class_of_record groups (Some r))))

-- the order of last writes after a placing: only a fresh content is a write
abbrev pub order_put : List ℕ → ℕ → Put → Outcome → List ℕ
order_put order b (Fresh x) outcome = order_after order b outcome
order_put order b Again outcome = order

-- a block goes into a slot, and the write is noted where it is one
abbrev pub PutsAt : Tiered → ℕ → ℕ → Put → ℕ → Outcome → Tiered → Type 0
PutsAt T w b what s outcome U = (G : Flat) × PlaceCase T.flat w s b what outcome G
    × (U ≡ record T { flat = G; order = order_put T.order b what outcome })
