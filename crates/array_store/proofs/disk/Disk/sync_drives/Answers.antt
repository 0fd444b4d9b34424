use Rattle.array_store.proofs.Holding.{kept_holds, kept_follows, synced_keys, synced_makes}
use Rattle.array_store.proofs.disk.Disk.sync_drives.Goals as goal

pub returns-clause-kept : goal.returns-clause-kept
returns-clause-kept g c = λ F is.
    let t = c.args.self.now.tiers in
    let u = c.sync.new.self in
    record { holds = kept_holds t u (synced_makes t u c.sync.ensures.flat) F.bytes is.holds; long = is.long; noted = is.noted }

pub returns-clause-stays : goal.returns-clause-stays
returns-clause-stays g c = λ F is.
    let t = c.args.self.now.tiers in
    let u = c.sync.new.self in
    kept_follows t u (synced_makes t u c.sync.ensures.flat) F.bytes is.holds

pub returns-clause-map : goal.returns-clause-map
returns-clause-map g c = λ F is. synced_keys c.args.self.now.tiers c.sync.new.self c.sync.ensures.flat is.holds.state is.holds.matches
