use Rattle.std.proofs.Common.{length, arith, subst, sym}
use Rattle.std.proofs.lemmas.Result.{on_ok_weaker}
use Rattle.vault.specs.Images.{Image}
use Rattle.vault.specs.Moments.{IsFront, RepresentsSome}
use Rattle.vault.proofs.Runs.{one_call}
use Rattle.vault.proofs.Writes.{front_matches, front_synced, front_longer}
use Rattle.vault.proofs.commit.flush.Goals as goal

pub returns-clause-flushed : goal.returns-clause-flushed
returns-clause-flushed g c = λ known lost stop low is.
    let base = g.V.Vault.seen c.args.vault.now in
    let same = c.sync_journal.ensures.seen known in
    on_ok_weaker c.sync_journal.result (λ durable. record {
      flushed = omega arith;
      leaves = λ i now. subst (λ (b : Image). IsFront lost b (length b.journal) i) (sym same)
          (front_synced lost base i low is.flushed (let from = (c.sync_journal.ensures.time known stop).ends i now in front_longer lost base from.0 i low (is.leaves from.0 from.1) from.2 from.3) (durable stop i now));
    }) (c.sync_journal.ensures.durable known)

pub returns-clause-any_moment : goal.returns-clause-any_moment
returns-clause-any_moment g c = λ known lost stop low is.
    let base = g.V.Vault.seen c.args.vault.now in
    one_call g.V.Vault.moment g.V.Vault.left_since stop c.args.vault.now c.sync_journal.new.self (RepresentsSome lost base.cells low base.journal)
    (g.V.Vault.may_leave c.args.vault.now stop) _ _ (g.met.V.Vault.only_now c.args.vault.now known stop) (c.sync_journal.ensures.time known stop)
    (λ i was. front_matches lost base i low (is.leaves i was))
    (λ i from. front_matches lost base i low (front_longer lost base from.0 i low (is.leaves from.0 from.1) from.2 from.3))
