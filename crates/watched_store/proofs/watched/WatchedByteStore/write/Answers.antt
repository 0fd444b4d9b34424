use Rattle.watched_store.proofs.Through.{through}
use Rattle.watched_store.proofs.watched.WatchedByteStore.write.Goals as goal

pub returns-clause-lasts : goal.returns-clause-lasts
returns-clause-lasts g c F G a b r q s t = through (λ w. w.store) (c.write.ensures.lasts F G a b r q s t)
