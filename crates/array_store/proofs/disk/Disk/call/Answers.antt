use Rattle.array_calls.proofs.Growing.{made_grows, made_of}
use Rattle.array_store.proofs.Calling.{grown_follows}
use Rattle.array_store.proofs.disk.Disk.call.Goals as goal

pub returns-clause-follows : goal.returns-clause-follows
returns-clause-follows g c T matches =
    let old = c.args.self.now.tiers in
    let new = c.carry.new.tiers in
    let asked = c.args.call.now in
    grown_follows old new (λ S is. let done = made_of c.carry.result old new asked c.carry.ensures.ok c.carry.ensures.err S is in (done.0, made_grows S asked done.0 done.1, done.2)) T matches
