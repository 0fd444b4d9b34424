use Rattle.std.proofs.Common.{[], ◌∷◌, ◌++◌, length, sym, subst}
use Rattle.extent_groups.specs.Planned.{after}
use Rattle.vault.specs.Images.{Matches, recovered}
use Rattle.vault.specs.Moments.{RepresentsSome, IsBeforeOrAfter}
use Rattle.vault.proofs.Carried.{on_ok_each, on_ok_of}
use Rattle.vault.proofs.Runs.{weaker, both_runs}
use Rattle.vault.proofs.Writes.{some_either, kept_matches, mid_matches}
use Rattle.vault.proofs.commit.keep.Goals as goal

pub returns-in_err-add-clause-any_moment : goal.returns-in_err-add-clause-any_moment
returns-in_err-add-clause-any_moment g c = λ known lost stop logged.
    let base = g.V.Vault.seen c.args.vault.now in
    let writes = c.args.batch.now in
    weaker g.V.Vault.moment g.V.Vault.left_since stop c.args.vault.now c.add.new.vault (RepresentsSome lost base.cells (length base.journal) (base.journal ++ writes ∷ [])) (IsBeforeOrAfter lost (recovered base) writes)
    (c.add.ensures.any_moment known lost stop (length base.journal) (logged stop)) (λ i p. some_either lost base i writes p)

pub returns-clause-logged : goal.returns-clause-logged
returns-clause-logged g c = λ known lost logged.
    let base = g.V.Vault.seen c.args.vault.now in
    on_ok_each _ c.flush.result (λ stop. c.flush.ensures.flushed (c.add.ensures.stays known) lost stop (length base.journal) (c.in_ok-add.ensures.added known lost stop (length base.journal) (logged stop)))

pub returns-clause-acknowledged : goal.returns-clause-acknowledged
returns-clause-acknowledged g c = λ known lost.
    let base = g.V.Vault.seen c.args.vault.now in
    let writes = c.args.batch.now in
    on_ok_of _ c.flush.result (subst (Matches lost (after (recovered base) writes)) (sym (c.flush.ensures.seen (c.add.ensures.stays known)))
    (kept_matches lost base (g.V.Vault.seen c.add.new.vault) writes (c.in_ok-add.ensures.cells known) (c.in_ok-add.ensures.journal known)))

pub returns-clause-any_moment : goal.returns-clause-any_moment
returns-clause-any_moment g c = λ known lost stop logged.
    let base = g.V.Vault.seen c.args.vault.now in
    let mid = g.V.Vault.seen c.add.new.vault in
    let writes = c.args.batch.now in
    both_runs g.V.Vault.moment g.V.Vault.left_since stop c.args.vault.now c.add.new.vault c.flush.new.vault
    (RepresentsSome lost base.cells (length base.journal) (base.journal ++ writes ∷ [])) (RepresentsSome lost mid.cells (length base.journal) mid.journal) (IsBeforeOrAfter lost (recovered base) writes)
    (c.add.ensures.any_moment known lost stop (length base.journal) (logged stop))
    (c.flush.ensures.any_moment (c.add.ensures.stays known) lost stop (length base.journal) (c.in_ok-add.ensures.added known lost stop (length base.journal) (logged stop)))
    (λ i p. some_either lost base i writes p)
    (λ i q. some_either lost base i writes (mid_matches lost base mid i writes (c.in_ok-add.ensures.cells known) (c.in_ok-add.ensures.journal known) q))
