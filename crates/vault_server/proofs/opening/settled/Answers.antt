use Rattle.journaled_store.proofs.Storing.{shows_on}
use Rattle.vault_server.proofs.opening.settled.Goals as goal

pub returns-clause-shows : goal.returns-clause-shows
returns-clause-shows g c = λ F what is shows.
    (shows_on _ _ F what (λ k. c.settle.ensures.keys F is k) shows, c.settle.ensures.bytes F is)
