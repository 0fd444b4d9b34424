use Rattle.watched_store.proofs.Through.{through}
use Rattle.watched_store.proofs.watched.WatchedByteStore.rest.Goals as goal

pub returns-clause-lasts : goal.returns-clause-lasts
returns-clause-lasts g c F b r s = through (λ w. w.store) (c.rest.ensures.lasts F b r s)
