use Rattle.std.proofs.Common.{length, replicate, ◌-◌, ◌≡◌, ◌≤◌, ℕ, List, true}
use Rattle.slot_tables.specs.Views.{SameSizes}
use Rattle.byte_store.specs.Flat.{written_over}
use Rattle.array_store.specs.Blocks.{Holds}
use Rattle.array_store.specs.Stores.{Follows}
use Rattle.array_store.proofs.disk.DiskByteStore.zero.Given as goal

-- so many bytes are written
abbrev pub invariant-loop-done : goal.invariant-loop-done
invariant-loop-done g l = record {
  some : l.done ≤ l.length;
  room : SameSizes l.initial.self.tiers.world.array l.self.tiers.world.array;
  bytes : l.self.size ≡ l.initial.self.size;
  noted : l.self.unsynced ≡ true;
  wrote : (bytes : List ℕ) → Holds l.initial.self.tiers bytes → length bytes ≡ l.initial.self.size
      → Holds l.self.tiers (written_over bytes l.offset (replicate l.done 0));
  stays : (bytes : List ℕ) → Holds l.initial.self.tiers bytes → length bytes ≡ l.initial.self.size → Follows l.initial.self.tiers l.self.tiers;
}

abbrev pub decreases-loop-done : goal.decreases-loop-done
decreases-loop-done g l = l.length - l.done
