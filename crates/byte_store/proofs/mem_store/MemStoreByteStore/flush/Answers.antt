use Rattle.std.proofs.Common.{false, refl}
use Rattle.byte_store.proofs.mem_store.MemStoreByteStore.flush.Goals as goal

pub returns-clause-change : goal.returns-clause-change
returns-clause-change c = λ F same. (record F { unsynced = false }, (same.0, refl), (refl, refl))
