use Rattle.std.proofs.Common.{length, slice_index, ◌-◌, ◌≡◌, ◌+◌, ◌<◌, ◌≤◌, ℕ, List}
use Rattle.slot_tables.specs.Views.{SameSizes}
use Rattle.array_store.specs.Blocks.{Holds}
use Rattle.array_store.specs.Stores.{Follows}
use Rattle.array_store.proofs.disk.DiskByteStore.read.Given as goal

-- so many bytes are read, and the disk's bytes are as before
abbrev pub invariant-loop-done : goal.invariant-loop-done
invariant-loop-done g l = record {
  long : length l.out ≡ length l.initial.out;
  some : l.done ≤ length l.initial.out;
  room : SameSizes l.initial.self.tiers.world.array l.self.tiers.world.array;
  bytes : l.self.size ≡ l.initial.self.size;
  noted : l.self.unsynced ≡ l.initial.self.unsynced;
  kept : (bytes : List ℕ) → Holds l.initial.self.tiers bytes → Holds l.self.tiers bytes;
  read : (bytes : List ℕ) → Holds l.initial.self.tiers bytes → length bytes ≡ l.initial.self.size
      → (k : ℕ) → k < l.done → slice_index l.out k ≡ slice_index bytes (l.offset + k);
  stays : (bytes : List ℕ) → Holds l.initial.self.tiers bytes → Follows l.initial.self.tiers l.self.tiers;
}

abbrev pub decreases-loop-done : goal.decreases-loop-done
decreases-loop-done g l = length l.initial.out - l.done
