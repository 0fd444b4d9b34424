use Rattle.drive_rebuild.proofs.Underway.{wrote_none}
use Rattle.drive_rebuild.proofs.stages.rebuild_units.Goals as goal

pub returns-in_err-unit-clause-wrote : goal.returns-in_err-unit-clause-wrote
returns-in_err-unit-clause-wrote g c = λ known lost gone.
    wrote_none g.V.Vault.seen g.V.Vault.may_leave g.V.Vault.moment g.V.Vault.left_since lost c.args.vault.now (λ stop. g.met.V.Vault.only_now c.args.vault.now known stop)

pub returns-in_err-part-clause-wrote : goal.returns-in_err-part-clause-wrote
returns-in_err-part-clause-wrote g c = λ known lost gone.
    wrote_none g.V.Vault.seen g.V.Vault.may_leave g.V.Vault.moment g.V.Vault.left_since lost c.args.vault.now (λ stop. g.met.V.Vault.only_now c.args.vault.now known stop)

pub returns-then-not-compute-clause-wrote : goal.returns-then-not-compute-clause-wrote
returns-then-not-compute-clause-wrote g c = λ known lost gone.
    wrote_none g.V.Vault.seen g.V.Vault.may_leave g.V.Vault.moment g.V.Vault.left_since lost c.args.vault.now (λ stop. g.met.V.Vault.only_now c.args.vault.now known stop)

pub returns-then-place-drives-clause-wrote : goal.returns-then-place-drives-clause-wrote
returns-then-place-drives-clause-wrote g c = λ known lost gone.
    wrote_none g.V.Vault.seen g.V.Vault.may_leave g.V.Vault.moment g.V.Vault.left_since lost c.args.vault.now (λ stop. g.met.V.Vault.only_now c.args.vault.now known stop)
