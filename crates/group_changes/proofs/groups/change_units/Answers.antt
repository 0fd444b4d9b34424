use Rattle.std.proofs.lemmas.Result.{err_from_is_err_and}
use Rattle.vault.specs.Images.{Matches, recovered}
use Rattle.array_batch.proofs.Running.{array_found, carrying, changed, ends_found, logged_now, looked, planning, settling, still}
use Rattle.group_changes.specs.Changed.{IsChanged, units_of}
use Rattle.group_changes.proofs.Refusing.{no_refusal, on_refusal}
use Rattle.group_changes.proofs.groups.change_units.Goals as goal

pub returns-in_err-test_table-clause-any_moment : goal.returns-in_err-test_table-clause-any_moment
returns-in_err-test_table-clause-any_moment g c = λ known what lost can stop.
    let units = units_of c.args.shape.now in
    let such = IsChanged c.args.change.now c.args.shape.now c.args.drives c.args.groups in
    let v0 = c.args.vault.now in
    let v1 = c.test_table.new.vault in
    still g.V.Vault.seen g.V.Vault.may_leave g.V.Vault.moment g.V.Vault.left_since what c.args.groups c.args.drives such c.args.drives units lost v0 can (λ stop. g.met.V.Vault.only_now v0 known stop) v1 stop ((looked g.V.Vault.seen g.V.Vault.may_leave g.V.Vault.moment g.V.Vault.left_since what c.args.groups c.args.drives such c.args.drives units lost v0 can (λ stop. g.met.V.Vault.only_now v0 known stop) v1 (c.test_table.ensures.read known)).moments stop)

pub returns-in_err-test_table-clause-refused : goal.returns-in_err-test_table-clause-refused
returns-in_err-test_table-clause-refused g c = λ known what lost can.
    let units = units_of c.args.shape.now in
    let such = IsChanged c.args.change.now c.args.shape.now c.args.drives c.args.groups in
    let v0 = c.args.vault.now in
    let v1 = c.test_table.new.vault in
    on_refusal g.V.Vault.moment g.V.Vault.left_since v0 v1 (Matches lost (recovered (g.V.Vault.seen v0))) c.from_residual.result (λ stop. (looked g.V.Vault.seen g.V.Vault.may_leave g.V.Vault.moment g.V.Vault.left_since what c.args.groups c.args.drives such c.args.drives units lost v0 can (λ stop. g.met.V.Vault.only_now v0 known stop) v1 (c.test_table.ensures.read known)).moments stop)

pub returns-in_err-prepare-clause-any_moment : goal.returns-in_err-prepare-clause-any_moment
returns-in_err-prepare-clause-any_moment g c = λ known what lost can stop.
    let units = units_of c.args.shape.now in
    let such = IsChanged c.args.change.now c.args.shape.now c.args.drives c.args.groups in
    let v0 = c.args.vault.now in
    let v1 = c.test_table.new.vault in
    let read = c.test_table.ensures.read known in
    let stays1 = c.test_table.ensures.stays known in
    let logged = (looked g.V.Vault.seen g.V.Vault.may_leave g.V.Vault.moment g.V.Vault.left_since what c.args.groups c.args.drives such c.args.drives units lost v0 can (λ stop. g.met.V.Vault.only_now v0 known stop) v1 read).logged in
    let v2 = c.prepare.new.vault in
    still g.V.Vault.seen g.V.Vault.may_leave g.V.Vault.moment g.V.Vault.left_since what c.args.groups c.args.drives such c.args.drives units lost v0 can (λ stop. g.met.V.Vault.only_now v0 known stop) v2 stop (settling g.V.Vault.seen g.V.Vault.may_leave g.V.Vault.moment g.V.Vault.left_since what c.args.groups c.args.drives such c.args.drives units lost v0 can (λ stop. g.met.V.Vault.only_now v0 known stop) v1 read v2 (λ stop. c.prepare.ensures.any_moment stays1 lost logged stop) stop)

pub returns-in_err-prepare-clause-refused : goal.returns-in_err-prepare-clause-refused
returns-in_err-prepare-clause-refused g c = λ known what lost can.
    let units = units_of c.args.shape.now in
    let such = IsChanged c.args.change.now c.args.shape.now c.args.drives c.args.groups in
    let v0 = c.args.vault.now in
    let v1 = c.test_table.new.vault in
    let read = c.test_table.ensures.read known in
    let stays1 = c.test_table.ensures.stays known in
    let logged = (looked g.V.Vault.seen g.V.Vault.may_leave g.V.Vault.moment g.V.Vault.left_since what c.args.groups c.args.drives such c.args.drives units lost v0 can (λ stop. g.met.V.Vault.only_now v0 known stop) v1 read).logged in
    let v2 = c.prepare.new.vault in
    on_refusal g.V.Vault.moment g.V.Vault.left_since v0 v2 (Matches lost (recovered (g.V.Vault.seen v0))) c.from_residual-in_err-prepare.result (λ stop. settling g.V.Vault.seen g.V.Vault.may_leave g.V.Vault.moment g.V.Vault.left_since what c.args.groups c.args.drives such c.args.drives units lost v0 can (λ stop. g.met.V.Vault.only_now v0 known stop) v1 read v2 (λ stop. c.prepare.ensures.any_moment stays1 lost logged stop) stop)

pub returns-in_err-plan-clause-any_moment : goal.returns-in_err-plan-clause-any_moment
returns-in_err-plan-clause-any_moment g c = λ known what lost can stop.
    let units = units_of c.args.shape.now in
    let such = IsChanged c.args.change.now c.args.shape.now c.args.drives c.args.groups in
    let v0 = c.args.vault.now in
    let v1 = c.test_table.new.vault in
    let read = c.test_table.ensures.read known in
    let stays1 = c.test_table.ensures.stays known in
    let logged = (looked g.V.Vault.seen g.V.Vault.may_leave g.V.Vault.moment g.V.Vault.left_since what c.args.groups c.args.drives such c.args.drives units lost v0 can (λ stop. g.met.V.Vault.only_now v0 known stop) v1 read).logged in
    let v2 = c.prepare.new.vault in
    let settled = c.in_ok-prepare.ensures.settled stays1 lost logged in
    let stays2 = c.prepare.ensures.stays stays1 in
    let v3 = c.plan.new.vault in
    let by = c.plan.ensures.read stays2 in
    still g.V.Vault.seen g.V.Vault.may_leave g.V.Vault.moment g.V.Vault.left_since what c.args.groups c.args.drives such c.args.drives units lost v0 can (λ stop. g.met.V.Vault.only_now v0 known stop) v3 stop (planning g.V.Vault.seen g.V.Vault.may_leave g.V.Vault.moment g.V.Vault.left_since what c.args.groups c.args.drives such c.args.drives units lost v0 can (λ stop. g.met.V.Vault.only_now v0 known stop) v1 read v2 (λ stop. c.prepare.ensures.any_moment stays1 lost logged stop) settled v3 by stop)

pub returns-in_err-plan-clause-refused : goal.returns-in_err-plan-clause-refused
returns-in_err-plan-clause-refused g c = λ known what lost can.
    let units = units_of c.args.shape.now in
    let such = IsChanged c.args.change.now c.args.shape.now c.args.drives c.args.groups in
    let v0 = c.args.vault.now in
    let v1 = c.test_table.new.vault in
    let read = c.test_table.ensures.read known in
    let stays1 = c.test_table.ensures.stays known in
    let logged = (looked g.V.Vault.seen g.V.Vault.may_leave g.V.Vault.moment g.V.Vault.left_since what c.args.groups c.args.drives such c.args.drives units lost v0 can (λ stop. g.met.V.Vault.only_now v0 known stop) v1 read).logged in
    let v2 = c.prepare.new.vault in
    let settled = c.in_ok-prepare.ensures.settled stays1 lost logged in
    let stays2 = c.prepare.ensures.stays stays1 in
    let v3 = c.plan.new.vault in
    let by = c.plan.ensures.read stays2 in
    on_refusal g.V.Vault.moment g.V.Vault.left_since v0 v3 (Matches lost (recovered (g.V.Vault.seen v0))) c.from_residual-in_err-plan.result (λ stop. planning g.V.Vault.seen g.V.Vault.may_leave g.V.Vault.moment g.V.Vault.left_since what c.args.groups c.args.drives such c.args.drives units lost v0 can (λ stop. g.met.V.Vault.only_now v0 known stop) v1 read v2 (λ stop. c.prepare.ensures.any_moment stays1 lost logged stop) settled v3 by stop)

pub returns-in_err-carry_out-clause-any_moment : goal.returns-in_err-carry_out-clause-any_moment
returns-in_err-carry_out-clause-any_moment g c = λ known what lost can stop.
    let units = units_of c.args.shape.now in
    let such = IsChanged c.args.change.now c.args.shape.now c.args.drives c.args.groups in
    let v0 = c.args.vault.now in
    let v1 = c.test_table.new.vault in
    let read = c.test_table.ensures.read known in
    let stays1 = c.test_table.ensures.stays known in
    let logged = (looked g.V.Vault.seen g.V.Vault.may_leave g.V.Vault.moment g.V.Vault.left_since what c.args.groups c.args.drives such c.args.drives units lost v0 can (λ stop. g.met.V.Vault.only_now v0 known stop) v1 read).logged in
    let v2 = c.prepare.new.vault in
    let settled = c.in_ok-prepare.ensures.settled stays1 lost logged in
    let stays2 = c.prepare.ensures.stays stays1 in
    let v3 = c.plan.new.vault in
    let by = c.plan.ensures.read stays2 in
    let planned = c.in_ok-plan.ensures.planned stays2 what (array_found g.V.Vault.seen g.V.Vault.may_leave g.V.Vault.moment g.V.Vault.left_since what c.args.groups c.args.drives such c.args.drives units lost v0 can (λ stop. g.met.V.Vault.only_now v0 known stop) v1 read v2 (λ stop. c.prepare.ensures.any_moment stays1 lost logged stop) settled (c.in_ok-test_table.ensures.unmarked known)) (ends_found g.V.Vault.seen g.V.Vault.may_leave g.V.Vault.moment g.V.Vault.left_since what c.args.groups c.args.drives such c.args.drives units lost v0 can (λ stop. g.met.V.Vault.only_now v0 known stop) v1 read v2 (λ stop. c.prepare.ensures.any_moment stays1 lost logged stop) settled) in
    let stays3 = c.plan.ensures.stays stays2 in
    let durable = logged_now g.V.Vault.seen g.V.Vault.may_leave g.V.Vault.moment g.V.Vault.left_since what c.args.groups c.args.drives such c.args.drives units lost v0 can (λ stop. g.met.V.Vault.only_now v0 known stop) v1 read v2 (λ stop. c.prepare.ensures.any_moment stays1 lost logged stop) settled v3 by in
    let writes = c.plan.new.batch in
    carrying g.V.Vault.seen g.V.Vault.may_leave g.V.Vault.moment g.V.Vault.left_since what c.args.groups c.args.drives such c.args.drives units lost v0 can (λ stop. g.met.V.Vault.only_now v0 known stop) v1 read v2 (λ stop. c.prepare.ensures.any_moment stays1 lost logged stop) settled v3 by writes planned c.carry_out.new.vault stop (c.carry_out.ensures.any_moment stays3 durable stop)

pub returns-in_err-carry_out-clause-refused : goal.returns-in_err-carry_out-clause-refused
returns-in_err-carry_out-clause-refused g c = λ known what lost can.
    let v0 = c.args.vault.now in
    let p = err_from_is_err_and c.from_residual-in_err-carry_out.result c.from_residual-in_err-carry_out.ensures.1 in
    no_refusal g.V.Vault.moment g.V.Vault.left_since v0 c.carry_out.new.vault (Matches lost (recovered (g.V.Vault.seen v0))) c.from_residual-in_err-carry_out.result p.0 _ p.1 p.2

pub returns-clause-any_moment : goal.returns-clause-any_moment
returns-clause-any_moment g c = λ known what lost can stop.
    let units = units_of c.args.shape.now in
    let such = IsChanged c.args.change.now c.args.shape.now c.args.drives c.args.groups in
    let v0 = c.args.vault.now in
    let v1 = c.test_table.new.vault in
    let read = c.test_table.ensures.read known in
    let stays1 = c.test_table.ensures.stays known in
    let logged = (looked g.V.Vault.seen g.V.Vault.may_leave g.V.Vault.moment g.V.Vault.left_since what c.args.groups c.args.drives such c.args.drives units lost v0 can (λ stop. g.met.V.Vault.only_now v0 known stop) v1 read).logged in
    let v2 = c.prepare.new.vault in
    let settled = c.in_ok-prepare.ensures.settled stays1 lost logged in
    let stays2 = c.prepare.ensures.stays stays1 in
    let v3 = c.plan.new.vault in
    let by = c.plan.ensures.read stays2 in
    let planned = c.in_ok-plan.ensures.planned stays2 what (array_found g.V.Vault.seen g.V.Vault.may_leave g.V.Vault.moment g.V.Vault.left_since what c.args.groups c.args.drives such c.args.drives units lost v0 can (λ stop. g.met.V.Vault.only_now v0 known stop) v1 read v2 (λ stop. c.prepare.ensures.any_moment stays1 lost logged stop) settled (c.in_ok-test_table.ensures.unmarked known)) (ends_found g.V.Vault.seen g.V.Vault.may_leave g.V.Vault.moment g.V.Vault.left_since what c.args.groups c.args.drives such c.args.drives units lost v0 can (λ stop. g.met.V.Vault.only_now v0 known stop) v1 read v2 (λ stop. c.prepare.ensures.any_moment stays1 lost logged stop) settled) in
    let stays3 = c.plan.ensures.stays stays2 in
    let durable = logged_now g.V.Vault.seen g.V.Vault.may_leave g.V.Vault.moment g.V.Vault.left_since what c.args.groups c.args.drives such c.args.drives units lost v0 can (λ stop. g.met.V.Vault.only_now v0 known stop) v1 read v2 (λ stop. c.prepare.ensures.any_moment stays1 lost logged stop) settled v3 by in
    let writes = c.plan.new.batch in
    carrying g.V.Vault.seen g.V.Vault.may_leave g.V.Vault.moment g.V.Vault.left_since what c.args.groups c.args.drives such c.args.drives units lost v0 can (λ stop. g.met.V.Vault.only_now v0 known stop) v1 read v2 (λ stop. c.prepare.ensures.any_moment stays1 lost logged stop) settled v3 by writes planned c.carry_out.new.vault stop (c.carry_out.ensures.any_moment stays3 durable stop)

pub returns-clause-changed : goal.returns-clause-changed
returns-clause-changed g c = λ known what lost can.
    let units = units_of c.args.shape.now in
    let such = IsChanged c.args.change.now c.args.shape.now c.args.drives c.args.groups in
    let v0 = c.args.vault.now in
    let v1 = c.test_table.new.vault in
    let read = c.test_table.ensures.read known in
    let stays1 = c.test_table.ensures.stays known in
    let logged = (looked g.V.Vault.seen g.V.Vault.may_leave g.V.Vault.moment g.V.Vault.left_since what c.args.groups c.args.drives such c.args.drives units lost v0 can (λ stop. g.met.V.Vault.only_now v0 known stop) v1 read).logged in
    let v2 = c.prepare.new.vault in
    let settled = c.in_ok-prepare.ensures.settled stays1 lost logged in
    let stays2 = c.prepare.ensures.stays stays1 in
    let v3 = c.plan.new.vault in
    let by = c.plan.ensures.read stays2 in
    let planned = c.in_ok-plan.ensures.planned stays2 what (array_found g.V.Vault.seen g.V.Vault.may_leave g.V.Vault.moment g.V.Vault.left_since what c.args.groups c.args.drives such c.args.drives units lost v0 can (λ stop. g.met.V.Vault.only_now v0 known stop) v1 read v2 (λ stop. c.prepare.ensures.any_moment stays1 lost logged stop) settled (c.in_ok-test_table.ensures.unmarked known)) (ends_found g.V.Vault.seen g.V.Vault.may_leave g.V.Vault.moment g.V.Vault.left_since what c.args.groups c.args.drives such c.args.drives units lost v0 can (λ stop. g.met.V.Vault.only_now v0 known stop) v1 read v2 (λ stop. c.prepare.ensures.any_moment stays1 lost logged stop) settled) in
    let stays3 = c.plan.ensures.stays stays2 in
    let durable = logged_now g.V.Vault.seen g.V.Vault.may_leave g.V.Vault.moment g.V.Vault.left_since what c.args.groups c.args.drives such c.args.drives units lost v0 can (λ stop. g.met.V.Vault.only_now v0 known stop) v1 read v2 (λ stop. c.prepare.ensures.any_moment stays1 lost logged stop) settled v3 by in
    let writes = c.plan.new.batch in
    changed g.V.Vault.seen g.V.Vault.may_leave g.V.Vault.moment g.V.Vault.left_since what c.args.groups c.args.drives such c.args.drives units lost v0 can (λ stop. g.met.V.Vault.only_now v0 known stop) v1 read v2 (λ stop. c.prepare.ensures.any_moment stays1 lost logged stop) settled v3 by writes planned c.carry_out.new.vault (c.in_ok-carry_out.ensures.units stays3 durable) (c.in_ok-carry_out.ensures.durable stays3 durable)
