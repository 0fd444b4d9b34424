use Rattle.std.proofs.Common.{[], ◌∷◌, ◌++◌, length, ap, arith, length-append, subst, sym}
use Rattle.std.proofs.lemmas.Result.{on_ok_weaker}
use Rattle.vault.specs.Images.{with_journal}
use Rattle.vault.specs.Moments.{IsFront, RepresentsSome}
use Rattle.vault.specs.declared.store.Stop.TheVariants.{Killed}
use Rattle.vault.proofs.Carried.{on_ok_both}
use Rattle.vault.proofs.Runs.{one_call}
use Rattle.vault.proofs.Writes.{appended, appended_whole, front_alike, front_more, front_matches}
use Rattle.vault.proofs.commit.add.Goals as goal

pub returns-clause-added : goal.returns-clause-added
returns-clause-added g c = λ known lost stop low is.
    let base = g.V.Vault.seen c.args.vault.now in
    let writes = c.args.batch.now in
    on_ok_weaker c.append.result (λ alike. record {
      flushed = let low_is = is.flushed in omega (arith, low_is, ap length alike.journal, length-append base.journal (writes ∷ []));
      leaves = λ i now. front_alike lost (with_journal base (base.journal ++ writes ∷ [])) (g.V.Vault.seen c.append.new.self) i low alike
          (appended lost base i writes low (g.V.Vault.may_leave c.args.vault.now stop) is.flushed is.leaves ((c.append.ensures.time known stop).ends i now));
    }) (c.append.ensures.appended known)

pub returns-clause-killed : goal.returns-clause-killed
returns-clause-killed g c = λ known lost is.
    let base = g.V.Vault.seen c.args.vault.now in
    let writes = c.args.batch.now in
    let longer = with_journal base (base.journal ++ writes ∷ []) in
    on_ok_weaker c.append.result (λ both. record {
      flushed = omega arith;
      leaves = λ i now. subst (λ n. IsFront lost (g.V.Vault.seen c.append.new.self) n i) (sym (ap length both.0.journal))
          (front_alike lost longer (g.V.Vault.seen c.append.new.self) i (length longer.journal) both.0
          (appended_whole lost base i writes (g.V.Vault.may_leave c.args.vault.now Killed) is.leaves (both.1 i now)));
    }) (on_ok_both _ _ c.append.result (c.append.ensures.appended known) (c.append.ensures.killed known))

pub returns-clause-any_moment : goal.returns-clause-any_moment
returns-clause-any_moment g c = λ known lost stop low is.
    let base = g.V.Vault.seen c.args.vault.now in
    let writes = c.args.batch.now in
    let longer = with_journal base (base.journal ++ writes ∷ []) in
    one_call g.V.Vault.moment g.V.Vault.left_since stop c.args.vault.now c.append.new.self (RepresentsSome lost base.cells low (base.journal ++ writes ∷ []))
    (g.V.Vault.may_leave c.args.vault.now stop) _ _ (g.met.V.Vault.only_now c.args.vault.now known stop) (c.append.ensures.time known stop)
    (λ i was. front_matches lost longer i low (front_more lost base i writes low is.flushed (is.leaves i was)))
    (λ i now. front_matches lost longer i low (appended lost base i writes low (g.V.Vault.may_leave c.args.vault.now stop) is.flushed is.leaves now))
