use Rattle.std.proofs.Common.{◌+◌, ◌*◌}
use Rattle.extents.specs.Sizes.{extent_units}
use Rattle.array_batch.proofs.Running.{array_found, begun, carrying, changed, ends_found, logged_now, looked, planning, settling, still}
use Rattle.drive_addition.specs.Added.{AreGroupsFor}
use Rattle.drive_addition.proofs.add.add_units.Goals as goal

pub returns-then-from-ge-DRIVES-clause-any_moment : goal.returns-then-from-ge-DRIVES-clause-any_moment
returns-then-from-ge-DRIVES-clause-any_moment g c = λ known what lost can stop.
    let units = c.args.shape.now.extents * extent_units c.args.shape.now.segments in
    let such = AreGroupsFor c.args.shape.now c.args.groups (c.args.drives + 1) in
    let v0 = c.args.vault.now in
    still g.V.Vault.seen g.V.Vault.may_leave g.V.Vault.moment g.V.Vault.left_since what c.args.groups c.args.drives such (c.args.drives + 1) units lost v0 can (λ stop. g.met.V.Vault.only_now v0 known stop) v0 stop ((begun g.V.Vault.seen g.V.Vault.may_leave g.V.Vault.moment g.V.Vault.left_since what c.args.groups c.args.drives such (c.args.drives + 1) units lost v0 can (λ stop. g.met.V.Vault.only_now v0 known stop)).moments stop)

pub returns-in_err-test_table-clause-any_moment : goal.returns-in_err-test_table-clause-any_moment
returns-in_err-test_table-clause-any_moment g c = λ known what lost can stop.
    let units = c.args.shape.now.extents * extent_units c.args.shape.now.segments in
    let such = AreGroupsFor c.args.shape.now c.args.groups (c.args.drives + 1) in
    let v0 = c.args.vault.now in
    let v1 = c.test_table.new.vault in
    still g.V.Vault.seen g.V.Vault.may_leave g.V.Vault.moment g.V.Vault.left_since what c.args.groups c.args.drives such (c.args.drives + 1) units lost v0 can (λ stop. g.met.V.Vault.only_now v0 known stop) v1 stop ((looked g.V.Vault.seen g.V.Vault.may_leave g.V.Vault.moment g.V.Vault.left_since what c.args.groups c.args.drives such (c.args.drives + 1) units lost v0 can (λ stop. g.met.V.Vault.only_now v0 known stop) v1 (c.test_table.ensures.read known)).moments stop)

pub returns-in_err-prepare-clause-any_moment : goal.returns-in_err-prepare-clause-any_moment
returns-in_err-prepare-clause-any_moment g c = λ known what lost can stop.
    let units = c.args.shape.now.extents * extent_units c.args.shape.now.segments in
    let such = AreGroupsFor c.args.shape.now c.args.groups (c.args.drives + 1) in
    let v0 = c.args.vault.now in
    let v1 = c.test_table.new.vault in
    let read = c.test_table.ensures.read known in
    let stays1 = c.test_table.ensures.stays known in
    let logged = (looked g.V.Vault.seen g.V.Vault.may_leave g.V.Vault.moment g.V.Vault.left_since what c.args.groups c.args.drives such (c.args.drives + 1) units lost v0 can (λ stop. g.met.V.Vault.only_now v0 known stop) v1 read).logged in
    let v2 = c.prepare.new.vault in
    still g.V.Vault.seen g.V.Vault.may_leave g.V.Vault.moment g.V.Vault.left_since what c.args.groups c.args.drives such (c.args.drives + 1) units lost v0 can (λ stop. g.met.V.Vault.only_now v0 known stop) v2 stop (settling g.V.Vault.seen g.V.Vault.may_leave g.V.Vault.moment g.V.Vault.left_since what c.args.groups c.args.drives such (c.args.drives + 1) units lost v0 can (λ stop. g.met.V.Vault.only_now v0 known stop) v1 read v2 (λ stop. c.prepare.ensures.any_moment stays1 lost logged stop) stop)

pub returns-in_err-plan-clause-any_moment : goal.returns-in_err-plan-clause-any_moment
returns-in_err-plan-clause-any_moment g c = λ known what lost can stop.
    let units = c.args.shape.now.extents * extent_units c.args.shape.now.segments in
    let such = AreGroupsFor c.args.shape.now c.args.groups (c.args.drives + 1) in
    let v0 = c.args.vault.now in
    let v1 = c.test_table.new.vault in
    let read = c.test_table.ensures.read known in
    let stays1 = c.test_table.ensures.stays known in
    let logged = (looked g.V.Vault.seen g.V.Vault.may_leave g.V.Vault.moment g.V.Vault.left_since what c.args.groups c.args.drives such (c.args.drives + 1) units lost v0 can (λ stop. g.met.V.Vault.only_now v0 known stop) v1 read).logged in
    let v2 = c.prepare.new.vault in
    let settled = c.in_ok-prepare.ensures.settled stays1 lost logged in
    let stays2 = c.prepare.ensures.stays stays1 in
    let v3 = c.plan.new.vault in
    let by = c.plan.ensures.read stays2 in
    still g.V.Vault.seen g.V.Vault.may_leave g.V.Vault.moment g.V.Vault.left_since what c.args.groups c.args.drives such (c.args.drives + 1) units lost v0 can (λ stop. g.met.V.Vault.only_now v0 known stop) v3 stop (planning g.V.Vault.seen g.V.Vault.may_leave g.V.Vault.moment g.V.Vault.left_since what c.args.groups c.args.drives such (c.args.drives + 1) units lost v0 can (λ stop. g.met.V.Vault.only_now v0 known stop) v1 read v2 (λ stop. c.prepare.ensures.any_moment stays1 lost logged stop) settled v3 by stop)

pub returns-in_err-carry_out-clause-any_moment : goal.returns-in_err-carry_out-clause-any_moment
returns-in_err-carry_out-clause-any_moment g c = λ known what lost can stop.
    let units = c.args.shape.now.extents * extent_units c.args.shape.now.segments in
    let such = AreGroupsFor c.args.shape.now c.args.groups (c.args.drives + 1) in
    let v0 = c.args.vault.now in
    let v1 = c.test_table.new.vault in
    let read = c.test_table.ensures.read known in
    let stays1 = c.test_table.ensures.stays known in
    let logged = (looked g.V.Vault.seen g.V.Vault.may_leave g.V.Vault.moment g.V.Vault.left_since what c.args.groups c.args.drives such (c.args.drives + 1) units lost v0 can (λ stop. g.met.V.Vault.only_now v0 known stop) v1 read).logged in
    let v2 = c.prepare.new.vault in
    let settled = c.in_ok-prepare.ensures.settled stays1 lost logged in
    let stays2 = c.prepare.ensures.stays stays1 in
    let v3 = c.plan.new.vault in
    let by = c.plan.ensures.read stays2 in
    let planned = c.in_ok-plan.ensures.planned stays2 what (array_found g.V.Vault.seen g.V.Vault.may_leave g.V.Vault.moment g.V.Vault.left_since what c.args.groups c.args.drives such (c.args.drives + 1) units lost v0 can (λ stop. g.met.V.Vault.only_now v0 known stop) v1 read v2 (λ stop. c.prepare.ensures.any_moment stays1 lost logged stop) settled (c.in_ok-test_table.ensures.unmarked known)) (ends_found g.V.Vault.seen g.V.Vault.may_leave g.V.Vault.moment g.V.Vault.left_since what c.args.groups c.args.drives such (c.args.drives + 1) units lost v0 can (λ stop. g.met.V.Vault.only_now v0 known stop) v1 read v2 (λ stop. c.prepare.ensures.any_moment stays1 lost logged stop) settled) in
    let stays3 = c.plan.ensures.stays stays2 in
    let durable = logged_now g.V.Vault.seen g.V.Vault.may_leave g.V.Vault.moment g.V.Vault.left_since what c.args.groups c.args.drives such (c.args.drives + 1) units lost v0 can (λ stop. g.met.V.Vault.only_now v0 known stop) v1 read v2 (λ stop. c.prepare.ensures.any_moment stays1 lost logged stop) settled v3 by in
    let writes = c.plan.new.batch in
    carrying g.V.Vault.seen g.V.Vault.may_leave g.V.Vault.moment g.V.Vault.left_since what c.args.groups c.args.drives such (c.args.drives + 1) units lost v0 can (λ stop. g.met.V.Vault.only_now v0 known stop) v1 read v2 (λ stop. c.prepare.ensures.any_moment stays1 lost logged stop) settled v3 by writes planned c.carry_out.new.vault stop (c.carry_out.ensures.any_moment stays3 durable stop)

pub returns-clause-any_moment : goal.returns-clause-any_moment
returns-clause-any_moment g c = λ known what lost can stop.
    let units = c.args.shape.now.extents * extent_units c.args.shape.now.segments in
    let such = AreGroupsFor c.args.shape.now c.args.groups (c.args.drives + 1) in
    let v0 = c.args.vault.now in
    let v1 = c.test_table.new.vault in
    let read = c.test_table.ensures.read known in
    let stays1 = c.test_table.ensures.stays known in
    let logged = (looked g.V.Vault.seen g.V.Vault.may_leave g.V.Vault.moment g.V.Vault.left_since what c.args.groups c.args.drives such (c.args.drives + 1) units lost v0 can (λ stop. g.met.V.Vault.only_now v0 known stop) v1 read).logged in
    let v2 = c.prepare.new.vault in
    let settled = c.in_ok-prepare.ensures.settled stays1 lost logged in
    let stays2 = c.prepare.ensures.stays stays1 in
    let v3 = c.plan.new.vault in
    let by = c.plan.ensures.read stays2 in
    let planned = c.in_ok-plan.ensures.planned stays2 what (array_found g.V.Vault.seen g.V.Vault.may_leave g.V.Vault.moment g.V.Vault.left_since what c.args.groups c.args.drives such (c.args.drives + 1) units lost v0 can (λ stop. g.met.V.Vault.only_now v0 known stop) v1 read v2 (λ stop. c.prepare.ensures.any_moment stays1 lost logged stop) settled (c.in_ok-test_table.ensures.unmarked known)) (ends_found g.V.Vault.seen g.V.Vault.may_leave g.V.Vault.moment g.V.Vault.left_since what c.args.groups c.args.drives such (c.args.drives + 1) units lost v0 can (λ stop. g.met.V.Vault.only_now v0 known stop) v1 read v2 (λ stop. c.prepare.ensures.any_moment stays1 lost logged stop) settled) in
    let stays3 = c.plan.ensures.stays stays2 in
    let durable = logged_now g.V.Vault.seen g.V.Vault.may_leave g.V.Vault.moment g.V.Vault.left_since what c.args.groups c.args.drives such (c.args.drives + 1) units lost v0 can (λ stop. g.met.V.Vault.only_now v0 known stop) v1 read v2 (λ stop. c.prepare.ensures.any_moment stays1 lost logged stop) settled v3 by in
    let writes = c.plan.new.batch in
    carrying g.V.Vault.seen g.V.Vault.may_leave g.V.Vault.moment g.V.Vault.left_since what c.args.groups c.args.drives such (c.args.drives + 1) units lost v0 can (λ stop. g.met.V.Vault.only_now v0 known stop) v1 read v2 (λ stop. c.prepare.ensures.any_moment stays1 lost logged stop) settled v3 by writes planned c.carry_out.new.vault stop (c.carry_out.ensures.any_moment stays3 durable stop)

pub returns-clause-added : goal.returns-clause-added
returns-clause-added g c = λ known what lost can.
    let units = c.args.shape.now.extents * extent_units c.args.shape.now.segments in
    let such = AreGroupsFor c.args.shape.now c.args.groups (c.args.drives + 1) in
    let v0 = c.args.vault.now in
    let v1 = c.test_table.new.vault in
    let read = c.test_table.ensures.read known in
    let stays1 = c.test_table.ensures.stays known in
    let logged = (looked g.V.Vault.seen g.V.Vault.may_leave g.V.Vault.moment g.V.Vault.left_since what c.args.groups c.args.drives such (c.args.drives + 1) units lost v0 can (λ stop. g.met.V.Vault.only_now v0 known stop) v1 read).logged in
    let v2 = c.prepare.new.vault in
    let settled = c.in_ok-prepare.ensures.settled stays1 lost logged in
    let stays2 = c.prepare.ensures.stays stays1 in
    let v3 = c.plan.new.vault in
    let by = c.plan.ensures.read stays2 in
    let planned = c.in_ok-plan.ensures.planned stays2 what (array_found g.V.Vault.seen g.V.Vault.may_leave g.V.Vault.moment g.V.Vault.left_since what c.args.groups c.args.drives such (c.args.drives + 1) units lost v0 can (λ stop. g.met.V.Vault.only_now v0 known stop) v1 read v2 (λ stop. c.prepare.ensures.any_moment stays1 lost logged stop) settled (c.in_ok-test_table.ensures.unmarked known)) (ends_found g.V.Vault.seen g.V.Vault.may_leave g.V.Vault.moment g.V.Vault.left_since what c.args.groups c.args.drives such (c.args.drives + 1) units lost v0 can (λ stop. g.met.V.Vault.only_now v0 known stop) v1 read v2 (λ stop. c.prepare.ensures.any_moment stays1 lost logged stop) settled) in
    let stays3 = c.plan.ensures.stays stays2 in
    let durable = logged_now g.V.Vault.seen g.V.Vault.may_leave g.V.Vault.moment g.V.Vault.left_since what c.args.groups c.args.drives such (c.args.drives + 1) units lost v0 can (λ stop. g.met.V.Vault.only_now v0 known stop) v1 read v2 (λ stop. c.prepare.ensures.any_moment stays1 lost logged stop) settled v3 by in
    let writes = c.plan.new.batch in
    changed g.V.Vault.seen g.V.Vault.may_leave g.V.Vault.moment g.V.Vault.left_since what c.args.groups c.args.drives such (c.args.drives + 1) units lost v0 can (λ stop. g.met.V.Vault.only_now v0 known stop) v1 read v2 (λ stop. c.prepare.ensures.any_moment stays1 lost logged stop) settled v3 by writes planned c.carry_out.new.vault (c.in_ok-carry_out.ensures.units stays3 durable) (c.in_ok-carry_out.ensures.durable stays3 durable)
