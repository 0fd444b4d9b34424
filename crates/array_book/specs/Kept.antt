-- What is seen of an array under a lock, with its order of last writes and the end of its write log; and what is always true of it.
use Rattle.std.specs.Prelude.{◌≡◌, ℕ, ◌<◌, length}
use Rattle.map_join.specs.declared.records.Record.{Record}
use Rattle.map_join.specs.Maps.{IsMapOf, IsSame}
use Rattle.map_join.specs.Record.{record_of}
use Rattle.unit_store.specs.Views.{IsLost}
use Rattle.flat_machine.specs.Flat.{Flat}
use Rattle.flat_machine.specs.Scanned.{IsScanned}
use Rattle.slot_tables.specs.Views.{ArrayView, key_at}
use Rattle.slot_tables.specs.Represents.{ShowsArray}
use Rattle.tiered_array.specs.Marking.{AreMarked, IsCommitNoted}
use Rattle.tiered_array.specs.declared.planner.Planner.{Planner}
use Rattle.step_core.specs.Headline.{slot_bytes}

-- the array, and what its plans go by
pub record KeptView : Type 0 where
  pub array : ArrayView
  pub planner : Planner

-- what is true whenever the lock is free: the array shows some flat state, and has these sizes; the order and the marks are of its
-- blocks, and exactly the blocks whose newest place is in a mirrored group are marked
pub record IsKept (many size : ℕ) (k : KeptView) : Type 0 where
  pub flat : Flat
  pub shows : ShowsArray k.array flat
  pub blocks : k.array.parts.groups.blocks ≡ many
  pub payload : k.array.parts.groups.payload ≡ size
  pub order : length k.planner.ages.order ≡ many
  pub long : length k.planner.ages.marks ≡ many
  pub marked : AreMarked k.planner.ages.marks k.array.parts.groups (key_at k.array)

-- no block's newest place is gone
abbrev pub AreHere : ArrayView → Type 0
AreHere a = (b : ℕ) → 0 < key_at a b → IsLost a.parts (record_of b (key_at a b)).place → ⊥

-- what follows of the array: its map is that of its log, and where no newest place is gone it is the one that the headers hold
pub record Agrees (a : ArrayView) : Type 0 where
  pub map : IsMapOf a.log (key_at a)
  pub headers : AreHere a → IsScanned (slot_bytes a.parts) (key_at a)
  pub scanned : AreHere a → (M : ℕ → ℕ) → IsScanned (slot_bytes a.parts) M → IsSame M (key_at a)

-- the array is another, and nothing else changed
abbrev pub OnlyArray : KeptView → KeptView → Type 0
OnlyArray before after = after.planner ≡ before.planner

-- the commit of a record is noted: by the order of last writes, and by its block's mark
abbrev pub HasNoted : KeptView → KeptView → Record → Type 0
HasNoted before after r = IsCommitNoted after.array.parts.groups before.planner.ages after.planner.ages r
