use Rattle.std.proofs.Common.{false, replicate}
use Rattle.std.proofs.lemmas.Result.{on_ok_weaker}
use Rattle.array_recovery.specs.Found.{OnlyRead}
use Rattle.drive_rebuild.proofs.Underway.{logged_synced, settled_moment, underway_none, underway_read}
use Rattle.array_batch.proofs.Settling.{none_lost, settled_none}
use Rattle.array_batch.proofs.stages.prepare.Goals as goal

pub returns-in_err-sync_units-clause-any_moment : goal.returns-in_err-sync_units-clause-any_moment
returns-in_err-sync_units-clause-any_moment g c = λ known lost logged stop.
    let v0 = c.args.vault.now in
    let v1 = c.sync_units.new.self in
    let read : OnlyRead g.V.Vault.seen g.V.Vault.may_leave g.V.Vault.moment g.V.Vault.left_since v0 v1 = record { finds = c.sync_units.ensures.seen known; time = c.sync_units.ensures.time known } in
    let u0 = underway_none g.V.Vault.seen g.V.Vault.may_leave g.V.Vault.moment g.V.Vault.left_since lost v0 (λ stop. g.met.V.Vault.only_now v0 known stop) logged in
    (underway_read g.V.Vault.seen g.V.Vault.may_leave g.V.Vault.moment g.V.Vault.left_since lost v0 v0 v1 u0 read).moments stop

pub returns-clause-settled : goal.returns-clause-settled
returns-clause-settled g c = λ known lost logged.
    let v0 = c.args.vault.now in
    let v1 = c.sync_units.new.self in
    let counts = replicate 16 false in
    let logged1 = logged_synced g.V.Vault.seen g.V.Vault.may_leave g.V.Vault.moment g.V.Vault.left_since lost counts v0 v1 (c.sync_units.ensures.seen known) logged (λ stop i now. (c.sync_units.ensures.time known stop).ends i now) (λ stop. c.in_ok-sync_units.ensures.durable known stop) in
    on_ok_weaker c.settle.result (λ settled. settled_none g.V.Vault.seen g.V.Vault.may_leave g.V.Vault.moment g.V.Vault.left_since counts (none_lost 16) v0 v1 c.settle.new.vault (c.sync_units.ensures.seen known) settled)
    (c.settle.ensures.settled (c.sync_units.ensures.stays known) logged1)

pub returns-clause-any_moment : goal.returns-clause-any_moment
returns-clause-any_moment g c = λ known lost logged stop.
    let v0 = c.args.vault.now in
    let v1 = c.sync_units.new.self in
    let counts = replicate 16 false in
    let read : OnlyRead g.V.Vault.seen g.V.Vault.may_leave g.V.Vault.moment g.V.Vault.left_since v0 v1 = record { finds = c.sync_units.ensures.seen known; time = c.sync_units.ensures.time known } in
    let u0 = underway_none g.V.Vault.seen g.V.Vault.may_leave g.V.Vault.moment g.V.Vault.left_since lost v0 (λ stop. g.met.V.Vault.only_now v0 known stop) logged in
    let u1 = underway_read g.V.Vault.seen g.V.Vault.may_leave g.V.Vault.moment g.V.Vault.left_since lost v0 v0 v1 u0 read in
    let logged1 = logged_synced g.V.Vault.seen g.V.Vault.may_leave g.V.Vault.moment g.V.Vault.left_since lost counts v0 v1 (c.sync_units.ensures.seen known) logged (λ stop i now. (c.sync_units.ensures.time known stop).ends i now) (λ stop. c.in_ok-sync_units.ensures.durable known stop) in
    settled_moment g.V.Vault.seen g.V.Vault.may_leave g.V.Vault.moment g.V.Vault.left_since lost counts v0 v1 c.settle.new.vault (λ d e. none_lost 16 d) u1 (λ stop. c.settle.ensures.any_moment (c.sync_units.ensures.stays known) logged1 stop) stop
