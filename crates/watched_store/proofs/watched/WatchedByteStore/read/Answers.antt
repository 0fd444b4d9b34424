use Rattle.watched_store.proofs.Through.{through}
use Rattle.watched_store.proofs.watched.WatchedByteStore.read.Goals as goal

pub returns-clause-lasts : goal.returns-clause-lasts
returns-clause-lasts g c F a r s = through (λ w. w.store) (c.read.ensures.lasts F a r s)
