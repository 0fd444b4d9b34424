use Rattle.journaled_store.specs.Left.{HasBoth}
use Rattle.journaled_store.specs.Outlasting.{point}
use Rattle.journaled_store.proofs.Calling.{flushed_acknowledges}
use Rattle.journaled_store.proofs.store.JournaledStore.keep.Goals as goal

pub returns-then-durably-clause-lasts : goal.returns-then-durably-clause-lasts
returns-then-durably-clause-lasts g c what has =
    let v = g.V.Vault in
    let e = c.publish_durably.ensures.lasts what has in (
      e.0,
      flushed_acknowledges HasBoth v.known v.seen v.may_leave v.moment v.left_since g.met.V.Vault.counts_now g.met.V.Vault.only_now c.publish_durably.result (point c.args.self.now) _ what e.1,
    )
