use Rattle.std.proofs.Common.{◌∙◌, ap}
use Rattle.std.proofs.lemmas.Result.{on_ok_weaker}
use Rattle.extent_groups.specs.Cells.{held}
use Rattle.vault.specs.Images.{Image, recovered}
use Rattle.array_recovery.specs.Found.{OnlyRead}
use Rattle.drive_rebuild.proofs.Underway.{logged_synced, settled_moment, underway_none, underway_read}
use Rattle.drive_removal.proofs.stages.prepare.Goals as goal

pub returns-in_err-sync_units-clause-any_moment : goal.returns-in_err-sync_units-clause-any_moment
returns-in_err-sync_units-clause-any_moment g c = λ known lost rest logged stop.
    let v0 = c.args.vault.now in
    let v1 = c.sync_units.new.self in
    let read : OnlyRead g.V.Vault.seen g.V.Vault.may_leave g.V.Vault.moment g.V.Vault.left_since v0 v1 = record { finds = c.sync_units.ensures.seen known; time = c.sync_units.ensures.time known } in
    let u0 = underway_none g.V.Vault.seen g.V.Vault.may_leave g.V.Vault.moment g.V.Vault.left_since lost v0 (λ stop. g.met.V.Vault.only_now v0 known stop) logged in
    (underway_read g.V.Vault.seen g.V.Vault.may_leave g.V.Vault.moment g.V.Vault.left_since lost v0 v0 v1 u0 read).moments stop

pub returns-clause-settled : goal.returns-clause-settled
returns-clause-settled g c = λ known lost logged.
    let v0 = c.args.vault.now in
    let v1 = c.sync_units.new.self in
    let same = c.sync_units.ensures.seen known in
    let logged1 = logged_synced g.V.Vault.seen g.V.Vault.may_leave g.V.Vault.moment g.V.Vault.left_since lost c.args.counts.now v0 v1 same logged (λ stop i now. (c.sync_units.ensures.time known stop).ends i now) (λ stop. c.in_ok-sync_units.ensures.durable known stop) in
    on_ok_weaker c.settle.result (λ settled. record {
      empty = settled.empty;
      durable = settled.durable;
      cells = λ x on. settled.cells x on ∙ ap (λ (s : Image). held (recovered s) x) same;
    }) (c.settle.ensures.settled (c.sync_units.ensures.stays known) logged1)

pub returns-clause-any_moment : goal.returns-clause-any_moment
returns-clause-any_moment g c = λ known lost rest logged stop.
    let v0 = c.args.vault.now in
    let v1 = c.sync_units.new.self in
    let read : OnlyRead g.V.Vault.seen g.V.Vault.may_leave g.V.Vault.moment g.V.Vault.left_since v0 v1 = record { finds = c.sync_units.ensures.seen known; time = c.sync_units.ensures.time known } in
    let u0 = underway_none g.V.Vault.seen g.V.Vault.may_leave g.V.Vault.moment g.V.Vault.left_since lost v0 (λ stop. g.met.V.Vault.only_now v0 known stop) logged in
    let u1 = underway_read g.V.Vault.seen g.V.Vault.may_leave g.V.Vault.moment g.V.Vault.left_since lost v0 v0 v1 u0 read in
    let logged1 = logged_synced g.V.Vault.seen g.V.Vault.may_leave g.V.Vault.moment g.V.Vault.left_since lost c.args.counts.now v0 v1 (c.sync_units.ensures.seen known) logged (λ stop i now. (c.sync_units.ensures.time known stop).ends i now) (λ stop. c.in_ok-sync_units.ensures.durable known stop) in
    settled_moment g.V.Vault.seen g.V.Vault.may_leave g.V.Vault.moment g.V.Vault.left_since lost c.args.counts.now v0 v1 c.settle.new.vault rest u1 (λ stop. c.settle.ensures.any_moment (c.sync_units.ensures.stays known) logged1 stop) stop
