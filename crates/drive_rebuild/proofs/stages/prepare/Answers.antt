use Rattle.vault.proofs.Carried.{on_ok_of}
use Rattle.array_recovery.specs.Found.{OnlyRead}
use Rattle.drive_rebuild.proofs.Underway.{logged_synced, ready_now, settled_moment, underway_none, underway_read, underway_settled, underway_wrote}
use Rattle.drive_rebuild.proofs.stages.prepare.Goals as goal

pub returns-in_err-sync_units-clause-any_moment : goal.returns-in_err-sync_units-clause-any_moment
returns-in_err-sync_units-clause-any_moment g c = λ known lost with logged stop.
    let v0 = c.args.vault.now in
    let v1 = c.sync_units.new.self in
    let rest = with.rest in
    let read1 : OnlyRead g.V.Vault.seen g.V.Vault.may_leave g.V.Vault.moment g.V.Vault.left_since v0 v1 = record { finds = c.sync_units.ensures.seen known; time = c.sync_units.ensures.time known } in
    let u0 = underway_none g.V.Vault.seen g.V.Vault.may_leave g.V.Vault.moment g.V.Vault.left_since lost v0 (λ stop. g.met.V.Vault.only_now v0 known stop) logged in
    let u1 = underway_read g.V.Vault.seen g.V.Vault.may_leave g.V.Vault.moment g.V.Vault.left_since lost v0 v0 v1 u0 read1 in
    u1.moments stop

pub returns-in_err-settle-clause-any_moment : goal.returns-in_err-settle-clause-any_moment
returns-in_err-settle-clause-any_moment g c = λ known lost with logged stop.
    let v0 = c.args.vault.now in
    let v1 = c.sync_units.new.self in
    let rest = with.rest in
    let read1 : OnlyRead g.V.Vault.seen g.V.Vault.may_leave g.V.Vault.moment g.V.Vault.left_since v0 v1 = record { finds = c.sync_units.ensures.seen known; time = c.sync_units.ensures.time known } in
    let u0 = underway_none g.V.Vault.seen g.V.Vault.may_leave g.V.Vault.moment g.V.Vault.left_since lost v0 (λ stop. g.met.V.Vault.only_now v0 known stop) logged in
    let u1 = underway_read g.V.Vault.seen g.V.Vault.may_leave g.V.Vault.moment g.V.Vault.left_since lost v0 v0 v1 u0 read1 in
    let stays1 = c.sync_units.ensures.stays known in
    let v2 = c.settle.new.vault in
    let logged1 = logged_synced g.V.Vault.seen g.V.Vault.may_leave g.V.Vault.moment g.V.Vault.left_since lost c.args.counts.now v0 v1 (c.sync_units.ensures.seen known) logged (λ stop i now. (c.sync_units.ensures.time known stop).ends i now) (λ stop. c.in_ok-sync_units.ensures.durable known stop) in
    settled_moment g.V.Vault.seen g.V.Vault.may_leave g.V.Vault.moment g.V.Vault.left_since lost c.args.counts.now v0 v1 v2 rest u1 (λ stop. c.settle.ensures.any_moment stays1 logged1 stop) stop

pub returns-in_err-rebuild_units-clause-any_moment :
    goal.returns-in_err-rebuild_units-clause-any_moment
returns-in_err-rebuild_units-clause-any_moment g c = λ known lost with logged stop.
    let v0 = c.args.vault.now in
    let v1 = c.sync_units.new.self in
    let rest = with.rest in
    let read1 : OnlyRead g.V.Vault.seen g.V.Vault.may_leave g.V.Vault.moment g.V.Vault.left_since v0 v1 = record { finds = c.sync_units.ensures.seen known; time = c.sync_units.ensures.time known } in
    let u0 = underway_none g.V.Vault.seen g.V.Vault.may_leave g.V.Vault.moment g.V.Vault.left_since lost v0 (λ stop. g.met.V.Vault.only_now v0 known stop) logged in
    let u1 = underway_read g.V.Vault.seen g.V.Vault.may_leave g.V.Vault.moment g.V.Vault.left_since lost v0 v0 v1 u0 read1 in
    let stays1 = c.sync_units.ensures.stays known in
    let v2 = c.settle.new.vault in
    let logged1 = logged_synced g.V.Vault.seen g.V.Vault.may_leave g.V.Vault.moment g.V.Vault.left_since lost c.args.counts.now v0 v1 (c.sync_units.ensures.seen known) logged (λ stop i now. (c.sync_units.ensures.time known stop).ends i now) (λ stop. c.in_ok-sync_units.ensures.durable known stop) in
    let stays2 = c.settle.ensures.stays stays1 in
    let v3 = c.rebuild_units.new.vault in
    let settled = c.in_ok-settle.ensures.settled stays1 logged1 in
    let u2 = underway_settled g.V.Vault.seen g.V.Vault.may_leave g.V.Vault.moment g.V.Vault.left_since lost c.args.counts.now v0 v1 v2 rest u1 settled (λ stop. c.settle.ensures.any_moment stays1 logged1 stop) in
    let wrote = c.rebuild_units.ensures.wrote stays2 lost with.gone in
    let u3 = underway_wrote g.V.Vault.seen g.V.Vault.may_leave g.V.Vault.moment g.V.Vault.left_since lost v0 v2 v3 u2 wrote in
    u3.moments stop

pub returns-in_err-sync_units-2-clause-any_moment : goal.returns-in_err-sync_units-2-clause-any_moment
returns-in_err-sync_units-2-clause-any_moment g c = λ known lost with logged stop.
    let v0 = c.args.vault.now in
    let v1 = c.sync_units.new.self in
    let rest = with.rest in
    let read1 : OnlyRead g.V.Vault.seen g.V.Vault.may_leave g.V.Vault.moment g.V.Vault.left_since v0 v1 = record { finds = c.sync_units.ensures.seen known; time = c.sync_units.ensures.time known } in
    let u0 = underway_none g.V.Vault.seen g.V.Vault.may_leave g.V.Vault.moment g.V.Vault.left_since lost v0 (λ stop. g.met.V.Vault.only_now v0 known stop) logged in
    let u1 = underway_read g.V.Vault.seen g.V.Vault.may_leave g.V.Vault.moment g.V.Vault.left_since lost v0 v0 v1 u0 read1 in
    let stays1 = c.sync_units.ensures.stays known in
    let v2 = c.settle.new.vault in
    let logged1 = logged_synced g.V.Vault.seen g.V.Vault.may_leave g.V.Vault.moment g.V.Vault.left_since lost c.args.counts.now v0 v1 (c.sync_units.ensures.seen known) logged (λ stop i now. (c.sync_units.ensures.time known stop).ends i now) (λ stop. c.in_ok-sync_units.ensures.durable known stop) in
    let stays2 = c.settle.ensures.stays stays1 in
    let v3 = c.rebuild_units.new.vault in
    let settled = c.in_ok-settle.ensures.settled stays1 logged1 in
    let u2 = underway_settled g.V.Vault.seen g.V.Vault.may_leave g.V.Vault.moment g.V.Vault.left_since lost c.args.counts.now v0 v1 v2 rest u1 settled (λ stop. c.settle.ensures.any_moment stays1 logged1 stop) in
    let wrote = c.rebuild_units.ensures.wrote stays2 lost with.gone in
    let u3 = underway_wrote g.V.Vault.seen g.V.Vault.may_leave g.V.Vault.moment g.V.Vault.left_since lost v0 v2 v3 u2 wrote in
    let stays3 = c.rebuild_units.ensures.stays stays2 in
    let v4 = c.sync_units-2.new.self in
    let read4 : OnlyRead g.V.Vault.seen g.V.Vault.may_leave g.V.Vault.moment g.V.Vault.left_since v3 v4 = record { finds = c.sync_units-2.ensures.seen stays3; time = c.sync_units-2.ensures.time stays3 } in
    let u4 = underway_read g.V.Vault.seen g.V.Vault.may_leave g.V.Vault.moment g.V.Vault.left_since lost v0 v3 v4 u3 read4 in
    u4.moments stop

pub returns-clause-ready : goal.returns-clause-ready
returns-clause-ready g c = λ known lost with logged.
    let v0 = c.args.vault.now in
    let v1 = c.sync_units.new.self in
    let rest = with.rest in
    let read1 : OnlyRead g.V.Vault.seen g.V.Vault.may_leave g.V.Vault.moment g.V.Vault.left_since v0 v1 = record { finds = c.sync_units.ensures.seen known; time = c.sync_units.ensures.time known } in
    let u0 = underway_none g.V.Vault.seen g.V.Vault.may_leave g.V.Vault.moment g.V.Vault.left_since lost v0 (λ stop. g.met.V.Vault.only_now v0 known stop) logged in
    let u1 = underway_read g.V.Vault.seen g.V.Vault.may_leave g.V.Vault.moment g.V.Vault.left_since lost v0 v0 v1 u0 read1 in
    let stays1 = c.sync_units.ensures.stays known in
    let v2 = c.settle.new.vault in
    let logged1 = logged_synced g.V.Vault.seen g.V.Vault.may_leave g.V.Vault.moment g.V.Vault.left_since lost c.args.counts.now v0 v1 (c.sync_units.ensures.seen known) logged (λ stop i now. (c.sync_units.ensures.time known stop).ends i now) (λ stop. c.in_ok-sync_units.ensures.durable known stop) in
    let stays2 = c.settle.ensures.stays stays1 in
    let v3 = c.rebuild_units.new.vault in
    let settled = c.in_ok-settle.ensures.settled stays1 logged1 in
    let u2 = underway_settled g.V.Vault.seen g.V.Vault.may_leave g.V.Vault.moment g.V.Vault.left_since lost c.args.counts.now v0 v1 v2 rest u1 settled (λ stop. c.settle.ensures.any_moment stays1 logged1 stop) in
    let wrote = c.rebuild_units.ensures.wrote stays2 lost with.gone in
    let u3 = underway_wrote g.V.Vault.seen g.V.Vault.may_leave g.V.Vault.moment g.V.Vault.left_since lost v0 v2 v3 u2 wrote in
    let stays3 = c.rebuild_units.ensures.stays stays2 in
    let v4 = c.sync_units-2.new.self in
    let read4 : OnlyRead g.V.Vault.seen g.V.Vault.may_leave g.V.Vault.moment g.V.Vault.left_since v3 v4 = record { finds = c.sync_units-2.ensures.seen stays3; time = c.sync_units-2.ensures.time stays3 } in
    let u4 = underway_read g.V.Vault.seen g.V.Vault.may_leave g.V.Vault.moment g.V.Vault.left_since lost v0 v3 v4 u3 read4 in
    let stays4 = c.sync_units-2.ensures.stays stays3 in
    let v5 = c.verify.new.vault in
    let read5 = c.verify.ensures.read stays4 in
    let u5 = underway_read g.V.Vault.seen g.V.Vault.may_leave g.V.Vault.moment g.V.Vault.left_since lost v0 v4 v5 u4 read5 in
    on_ok_of _ c.verify.result (ready_now g.V.Vault.seen g.V.Vault.may_leave g.V.Vault.moment g.V.Vault.left_since lost c.args.counts.now v0 v1 v2 v3 v4 v5 (c.sync_units.ensures.seen known) settled wrote u3.logged read4 (λ stop. c.in_ok-sync_units-2.ensures.durable stays3 stop) read5 u5)

pub returns-clause-any_moment : goal.returns-clause-any_moment
returns-clause-any_moment g c = λ known lost with logged stop.
    let v0 = c.args.vault.now in
    let v1 = c.sync_units.new.self in
    let rest = with.rest in
    let read1 : OnlyRead g.V.Vault.seen g.V.Vault.may_leave g.V.Vault.moment g.V.Vault.left_since v0 v1 = record { finds = c.sync_units.ensures.seen known; time = c.sync_units.ensures.time known } in
    let u0 = underway_none g.V.Vault.seen g.V.Vault.may_leave g.V.Vault.moment g.V.Vault.left_since lost v0 (λ stop. g.met.V.Vault.only_now v0 known stop) logged in
    let u1 = underway_read g.V.Vault.seen g.V.Vault.may_leave g.V.Vault.moment g.V.Vault.left_since lost v0 v0 v1 u0 read1 in
    let stays1 = c.sync_units.ensures.stays known in
    let v2 = c.settle.new.vault in
    let logged1 = logged_synced g.V.Vault.seen g.V.Vault.may_leave g.V.Vault.moment g.V.Vault.left_since lost c.args.counts.now v0 v1 (c.sync_units.ensures.seen known) logged (λ stop i now. (c.sync_units.ensures.time known stop).ends i now) (λ stop. c.in_ok-sync_units.ensures.durable known stop) in
    let stays2 = c.settle.ensures.stays stays1 in
    let v3 = c.rebuild_units.new.vault in
    let settled = c.in_ok-settle.ensures.settled stays1 logged1 in
    let u2 = underway_settled g.V.Vault.seen g.V.Vault.may_leave g.V.Vault.moment g.V.Vault.left_since lost c.args.counts.now v0 v1 v2 rest u1 settled (λ stop. c.settle.ensures.any_moment stays1 logged1 stop) in
    let wrote = c.rebuild_units.ensures.wrote stays2 lost with.gone in
    let u3 = underway_wrote g.V.Vault.seen g.V.Vault.may_leave g.V.Vault.moment g.V.Vault.left_since lost v0 v2 v3 u2 wrote in
    let stays3 = c.rebuild_units.ensures.stays stays2 in
    let v4 = c.sync_units-2.new.self in
    let read4 : OnlyRead g.V.Vault.seen g.V.Vault.may_leave g.V.Vault.moment g.V.Vault.left_since v3 v4 = record { finds = c.sync_units-2.ensures.seen stays3; time = c.sync_units-2.ensures.time stays3 } in
    let u4 = underway_read g.V.Vault.seen g.V.Vault.may_leave g.V.Vault.moment g.V.Vault.left_since lost v0 v3 v4 u3 read4 in
    let stays4 = c.sync_units-2.ensures.stays stays3 in
    let v5 = c.verify.new.vault in
    let read5 = c.verify.ensures.read stays4 in
    let u5 = underway_read g.V.Vault.seen g.V.Vault.may_leave g.V.Vault.moment g.V.Vault.left_since lost v0 v4 v5 u4 read5 in
    u5.moments stop
