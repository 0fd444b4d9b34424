use Rattle.array_store.proofs.Holding.{follows_more}
use Rattle.array_store.proofs.disk.DiskByteStore.rest.Goals as goal

pub returns-clause-kept : goal.returns-clause-kept
returns-clause-kept g c = λ F is. record {
  holds = c.shorten_log.ensures.kept F.bytes (c.make_spare.ensures.kept F.bytes is.holds);
  long = is.long;
  noted = is.noted;
}

pub returns-clause-stays : goal.returns-clause-stays
returns-clause-stays g c = λ F is.
    follows_more _ _ _ (c.make_spare.ensures.stays F.bytes is.holds) (c.shorten_log.ensures.stays F.bytes (c.make_spare.ensures.kept F.bytes is.holds))
