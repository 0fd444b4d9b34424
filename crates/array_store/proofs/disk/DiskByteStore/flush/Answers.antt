use Rattle.std.proofs.Common.{refl, false}
use Rattle.array_store.proofs.Holding.{kept_holds, kept_follows, synced_keys, synced_makes}
use Rattle.array_store.proofs.disk.DiskByteStore.flush.Goals as goal

pub returns-clause-change : goal.returns-clause-change
returns-clause-change g c = λ F is.
    let t = c.args.self.now.tiers in
    let u = c.sync.new.self in (
      record { bytes = F.bytes; unsynced = false },
      record { holds = kept_holds t u (synced_makes t u c.sync.ensures.flat) F.bytes is.holds; long = is.long; noted = refl },
      (refl, refl),
    )

pub returns-then-lost_count-gt1-clause-stays : goal.returns-then-lost_count-gt1-clause-stays
returns-then-lost_count-gt1-clause-stays g c = λ F is.
    let t = c.args.self.now.tiers in
    let u = c.sync.new.self in
    kept_follows t u (synced_makes t u c.sync.ensures.flat) F.bytes is.holds

pub returns-clause-stays : goal.returns-clause-stays
returns-clause-stays g c = λ F is.
    let t = c.args.self.now.tiers in
    let u = c.sync.new.self in
    kept_follows t u (synced_makes t u c.sync.ensures.flat) F.bytes is.holds

pub returns-then-lost_count-gt1-clause-keys : goal.returns-then-lost_count-gt1-clause-keys
returns-then-lost_count-gt1-clause-keys g c = λ F is. synced_keys c.args.self.now.tiers c.sync.new.self c.sync.ensures.flat is.holds.state is.holds.matches

pub returns-clause-keys : goal.returns-clause-keys
returns-clause-keys g c = λ F is. synced_keys c.args.self.now.tiers c.sync.new.self c.sync.ensures.flat is.holds.state is.holds.matches
