use Rattle.std.proofs.Common.{[], false, refl, replicate}
use Rattle.std.proofs.lemmas.Result.{on_ok_weaker}
use Rattle.drive_rebuild.proofs.Underway.{noted_units}
use Rattle.array_batch.proofs.Settling.{carried_moment, logged_all, none_lost, settled_none}
use Rattle.array_batch.proofs.stages.carry_out.Goals as goal

pub returns-in_err-keep-clause-any_moment : goal.returns-in_err-keep-clause-any_moment
returns-in_err-keep-clause-any_moment g c = λ known logged stop. c.keep.ensures.any_moment known [] stop logged

pub returns-clause-durable : goal.returns-clause-durable
returns-clause-durable g c = λ known logged.
    let mid = c.keep.new.vault in
    let counts = replicate 16 false in
    let logged1 = logged_all g.V.Vault.seen g.V.Vault.may_leave g.V.Vault.moment g.V.Vault.left_since counts (none_lost 16) mid (c.in_ok-keep.ensures.logged known [] logged) in
    on_ok_weaker c.settle.result (λ settled. (settled_none g.V.Vault.seen g.V.Vault.may_leave g.V.Vault.moment g.V.Vault.left_since counts (none_lost 16) mid mid c.settle.new.vault refl settled).durable)
    (c.settle.ensures.settled (c.keep.ensures.stays known) logged1)

pub returns-clause-units : goal.returns-clause-units
returns-clause-units g c = λ known logged.
    let mid = c.keep.new.vault in
    let counts = replicate 16 false in
    let logged1 = logged_all g.V.Vault.seen g.V.Vault.may_leave g.V.Vault.moment g.V.Vault.left_since counts (none_lost 16) mid (c.in_ok-keep.ensures.logged known [] logged) in
    on_ok_weaker c.settle.result (λ settled. noted_units g.V.Vault.seen g.V.Vault.may_leave g.V.Vault.moment g.V.Vault.left_since [] c.args.vault.now mid c.settle.new.vault c.args.batch.now
    (c.in_ok-keep.ensures.acknowledged known [])
    (settled_none g.V.Vault.seen g.V.Vault.may_leave g.V.Vault.moment g.V.Vault.left_since counts (none_lost 16) mid mid c.settle.new.vault refl settled))
    (c.settle.ensures.settled (c.keep.ensures.stays known) logged1)

pub returns-clause-any_moment : goal.returns-clause-any_moment
returns-clause-any_moment g c = λ known logged stop.
    let mid = c.keep.new.vault in
    let counts = replicate 16 false in
    let logged1 = logged_all g.V.Vault.seen g.V.Vault.may_leave g.V.Vault.moment g.V.Vault.left_since counts (none_lost 16) mid (c.in_ok-keep.ensures.logged known [] logged) in
    carried_moment g.V.Vault.seen g.V.Vault.may_leave g.V.Vault.moment g.V.Vault.left_since counts (none_lost 16) c.args.vault.now mid c.settle.new.vault c.args.batch.now
    (c.in_ok-keep.ensures.acknowledged known []) stop (c.keep.ensures.any_moment known [] stop logged) (c.settle.ensures.any_moment (c.keep.ensures.stays known) logged1 stop)
