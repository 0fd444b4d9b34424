use Rattle.journaled_store.proofs.Settled.{empty_after, logged_after, units_after}
use Rattle.journaled_store.proofs.settling.settle_vault.Goals as goal

pub returns-clause-empty : goal.returns-clause-empty
returns-clause-empty g c known logged = empty_after g.V.Vault.seen g.V.Vault.may_leave c.args.lost.now c.args.vault.now c.settle.new.vault c.settle.result (c.settle.ensures.settled known logged)

pub returns-clause-units : goal.returns-clause-units
returns-clause-units g c known logged =
    units_after g.V.Vault.seen g.V.Vault.may_leave c.args.lost.now c.args.vault.now c.settle.new.vault c.settle.result (c.settle.ensures.settled known logged) (c.settle.ensures.kept known logged)

pub returns-clause-logged : goal.returns-clause-logged
returns-clause-logged g c known logged =
    logged_after g.V.Vault.seen g.V.Vault.may_leave c.args.lost.now c.args.vault.now c.settle.new.vault c.settle.result (c.settle.ensures.settled known logged) (c.settle.ensures.kept known logged)
