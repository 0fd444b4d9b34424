use Rattle.std.proofs.lemmas.Result.{on_ok_weaker}
use Rattle.drive_rebuild.proofs.Underway.{noted_moment, noted_units}
use Rattle.drive_removal.proofs.stages.carry_out.Goals as goal

pub returns-in_err-keep-clause-any_moment : goal.returns-in_err-keep-clause-any_moment
returns-in_err-keep-clause-any_moment g c = λ known logged stop. c.keep.ensures.any_moment known c.args.counts.now stop logged

pub returns-clause-durable : goal.returns-clause-durable
returns-clause-durable g c = λ known logged.
    let logged1 = c.in_ok-keep.ensures.logged known c.args.counts.now logged in
    on_ok_weaker c.settle.result (λ settled. settled.durable) (c.settle.ensures.settled (c.keep.ensures.stays known) logged1)

pub returns-clause-units : goal.returns-clause-units
returns-clause-units g c = λ known logged.
    let mid = c.keep.new.vault in
    let counts = c.args.counts.now in
    let logged1 = c.in_ok-keep.ensures.logged known counts logged in
    on_ok_weaker c.settle.result (λ settled. noted_units g.V.Vault.seen g.V.Vault.may_leave g.V.Vault.moment g.V.Vault.left_since counts c.args.vault.now mid c.settle.new.vault c.args.batch.now (c.in_ok-keep.ensures.acknowledged known counts) settled)
    (c.settle.ensures.settled (c.keep.ensures.stays known) logged1)

pub returns-clause-any_moment : goal.returns-clause-any_moment
returns-clause-any_moment g c = λ known logged stop.
    let mid = c.keep.new.vault in
    let counts = c.args.counts.now in
    let logged1 = c.in_ok-keep.ensures.logged known counts logged in
    noted_moment g.V.Vault.seen g.V.Vault.may_leave g.V.Vault.moment g.V.Vault.left_since counts c.args.vault.now mid c.settle.new.vault c.args.batch.now (c.in_ok-keep.ensures.acknowledged known counts) stop (c.keep.ensures.any_moment known counts stop logged)
    (c.settle.ensures.any_moment (c.keep.ensures.stays known) logged1 stop)
