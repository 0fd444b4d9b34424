use Rattle.std.proofs.Common.{◌*◌}
use Rattle.extents.specs.Sizes.{extent_units}
use Rattle.vault.specs.Images.{Image, Matches, recovered}
use Rattle.vault.specs.Moments.{LeavesOnly}
use Rattle.vault.specs.declared.store.Stop.{Stop}
use Rattle.drive_removal.proofs.Running.{array_found, begun, carrying, ends_found, logged_now, looked, planning, removed, rest, settling, still}
use Rattle.drive_removal.proofs.remove.remove_units.Goals as goal

pub returns-then-drives-le-LEAST-clause-any_moment : goal.returns-then-drives-le-LEAST-clause-any_moment
returns-then-drives-le-LEAST-clause-any_moment g c = λ known what lost can stop.
    let units = c.args.shape.now.extents * extent_units c.args.shape.now.segments in
    let v0 = c.args.vault.now in
    let only : (stop : Stop) (i : Image) → g.V.Vault.left_since v0 stop (g.V.Vault.moment v0) i → g.V.Vault.may_leave v0 stop i = λ stop. g.met.V.Vault.only_now v0 known stop in
    still g.V.Vault.seen g.V.Vault.may_leave g.V.Vault.moment g.V.Vault.left_since what c.args.shape.now c.args.groups c.args.drives units lost v0 can only v0 stop ((begun g.V.Vault.seen g.V.Vault.may_leave g.V.Vault.moment g.V.Vault.left_since what c.args.shape.now c.args.groups c.args.drives units lost v0 can only).moments stop)

pub returns-then-from-gt-DRIVES-clause-any_moment : goal.returns-then-from-gt-DRIVES-clause-any_moment
returns-then-from-gt-DRIVES-clause-any_moment g c = λ known what lost can stop.
    let units = c.args.shape.now.extents * extent_units c.args.shape.now.segments in
    let v0 = c.args.vault.now in
    let only : (stop : Stop) (i : Image) → g.V.Vault.left_since v0 stop (g.V.Vault.moment v0) i → g.V.Vault.may_leave v0 stop i = λ stop. g.met.V.Vault.only_now v0 known stop in
    still g.V.Vault.seen g.V.Vault.may_leave g.V.Vault.moment g.V.Vault.left_since what c.args.shape.now c.args.groups c.args.drives units lost v0 can only v0 stop ((begun g.V.Vault.seen g.V.Vault.may_leave g.V.Vault.moment g.V.Vault.left_since what c.args.shape.now c.args.groups c.args.drives units lost v0 can only).moments stop)

pub returns-in_err-counts-clause-any_moment : goal.returns-in_err-counts-clause-any_moment
returns-in_err-counts-clause-any_moment g c = λ known what lost can stop.
    let units = c.args.shape.now.extents * extent_units c.args.shape.now.segments in
    let v0 = c.args.vault.now in
    let only : (stop : Stop) (i : Image) → g.V.Vault.left_since v0 stop (g.V.Vault.moment v0) i → g.V.Vault.may_leave v0 stop i = λ stop. g.met.V.Vault.only_now v0 known stop in
    let v1 = c.find_lost.new.vault in
    still g.V.Vault.seen g.V.Vault.may_leave g.V.Vault.moment g.V.Vault.left_since what c.args.shape.now c.args.groups c.args.drives units lost v0 can only v1 stop ((looked g.V.Vault.seen g.V.Vault.may_leave g.V.Vault.moment g.V.Vault.left_since what c.args.shape.now c.args.groups c.args.drives units lost v0 can only v1 (c.find_lost.ensures.read known)).moments stop)

pub returns-in_err-prepare-clause-any_moment : goal.returns-in_err-prepare-clause-any_moment
returns-in_err-prepare-clause-any_moment g c = λ known what lost can stop.
    let units = c.args.shape.now.extents * extent_units c.args.shape.now.segments in
    let v0 = c.args.vault.now in
    let only : (stop : Stop) (i : Image) → g.V.Vault.left_since v0 stop (g.V.Vault.moment v0) i → g.V.Vault.may_leave v0 stop i = λ stop. g.met.V.Vault.only_now v0 known stop in
    let v1 = c.find_lost.new.vault in
    let read = c.find_lost.ensures.read known in
    let stays1 = c.find_lost.ensures.stays known in
    let counts = c.in_ok-counts.counts in
    let marked = c.in_ok-counts.ensures.marked known in
    let logged = (looked g.V.Vault.seen g.V.Vault.may_leave g.V.Vault.moment g.V.Vault.left_since what c.args.shape.now c.args.groups c.args.drives units lost v0 can only v1 read).logged in
    let v2 = c.prepare.new.vault in
    let moments : (stop : Stop) → LeavesOnly g.V.Vault.moment g.V.Vault.left_since stop v1 v2 (Matches lost (recovered (g.V.Vault.seen v1))) = λ stop. c.prepare.ensures.any_moment stays1 lost (rest g.V.Vault.seen g.V.Vault.may_leave g.V.Vault.moment g.V.Vault.left_since what c.args.shape.now c.args.groups c.args.drives units lost v0 can only v1 read counts marked) logged stop in
    still g.V.Vault.seen g.V.Vault.may_leave g.V.Vault.moment g.V.Vault.left_since what c.args.shape.now c.args.groups c.args.drives units lost v0 can only v2 stop (settling g.V.Vault.seen g.V.Vault.may_leave g.V.Vault.moment g.V.Vault.left_since what c.args.shape.now c.args.groups c.args.drives units lost v0 can only v1 read counts marked v2 moments stop)

pub returns-in_err-plan-clause-any_moment : goal.returns-in_err-plan-clause-any_moment
returns-in_err-plan-clause-any_moment g c = λ known what lost can stop.
    let units = c.args.shape.now.extents * extent_units c.args.shape.now.segments in
    let v0 = c.args.vault.now in
    let only : (stop : Stop) (i : Image) → g.V.Vault.left_since v0 stop (g.V.Vault.moment v0) i → g.V.Vault.may_leave v0 stop i = λ stop. g.met.V.Vault.only_now v0 known stop in
    let v1 = c.find_lost.new.vault in
    let read = c.find_lost.ensures.read known in
    let stays1 = c.find_lost.ensures.stays known in
    let counts = c.in_ok-counts.counts in
    let marked = c.in_ok-counts.ensures.marked known in
    let logged = (looked g.V.Vault.seen g.V.Vault.may_leave g.V.Vault.moment g.V.Vault.left_since what c.args.shape.now c.args.groups c.args.drives units lost v0 can only v1 read).logged in
    let v2 = c.prepare.new.vault in
    let moments : (stop : Stop) → LeavesOnly g.V.Vault.moment g.V.Vault.left_since stop v1 v2 (Matches lost (recovered (g.V.Vault.seen v1))) = λ stop. c.prepare.ensures.any_moment stays1 lost (rest g.V.Vault.seen g.V.Vault.may_leave g.V.Vault.moment g.V.Vault.left_since what c.args.shape.now c.args.groups c.args.drives units lost v0 can only v1 read counts marked) logged stop in
    let settled = c.in_ok-prepare.ensures.settled stays1 lost logged in
    let stays2 = c.prepare.ensures.stays stays1 in
    let v3 = c.plan.new.vault in
    let by = c.plan.ensures.read stays2 in
    still g.V.Vault.seen g.V.Vault.may_leave g.V.Vault.moment g.V.Vault.left_since what c.args.shape.now c.args.groups c.args.drives units lost v0 can only v3 stop (planning g.V.Vault.seen g.V.Vault.may_leave g.V.Vault.moment g.V.Vault.left_since what c.args.shape.now c.args.groups c.args.drives units lost v0 can only v1 read counts marked v2 moments settled v3 by stop)

pub returns-in_err-carry_out-clause-any_moment : goal.returns-in_err-carry_out-clause-any_moment
returns-in_err-carry_out-clause-any_moment g c = λ known what lost can stop.
    let units = c.args.shape.now.extents * extent_units c.args.shape.now.segments in
    let v0 = c.args.vault.now in
    let only : (stop : Stop) (i : Image) → g.V.Vault.left_since v0 stop (g.V.Vault.moment v0) i → g.V.Vault.may_leave v0 stop i = λ stop. g.met.V.Vault.only_now v0 known stop in
    let v1 = c.find_lost.new.vault in
    let read = c.find_lost.ensures.read known in
    let stays1 = c.find_lost.ensures.stays known in
    let counts = c.in_ok-counts.counts in
    let marked = c.in_ok-counts.ensures.marked known in
    let logged = (looked g.V.Vault.seen g.V.Vault.may_leave g.V.Vault.moment g.V.Vault.left_since what c.args.shape.now c.args.groups c.args.drives units lost v0 can only v1 read).logged in
    let v2 = c.prepare.new.vault in
    let moments : (stop : Stop) → LeavesOnly g.V.Vault.moment g.V.Vault.left_since stop v1 v2 (Matches lost (recovered (g.V.Vault.seen v1))) = λ stop. c.prepare.ensures.any_moment stays1 lost (rest g.V.Vault.seen g.V.Vault.may_leave g.V.Vault.moment g.V.Vault.left_since what c.args.shape.now c.args.groups c.args.drives units lost v0 can only v1 read counts marked) logged stop in
    let settled = c.in_ok-prepare.ensures.settled stays1 lost logged in
    let stays2 = c.prepare.ensures.stays stays1 in
    let v3 = c.plan.new.vault in
    let by = c.plan.ensures.read stays2 in
    let planned = c.in_ok-plan.ensures.planned stays2 what (array_found g.V.Vault.seen g.V.Vault.may_leave g.V.Vault.moment g.V.Vault.left_since what c.args.shape.now c.args.groups c.args.drives units lost v0 can only v1 read counts marked v2 moments settled) (ends_found g.V.Vault.seen g.V.Vault.may_leave g.V.Vault.moment g.V.Vault.left_since what c.args.shape.now c.args.groups c.args.drives units lost v0 can only v1 read counts marked v2 moments settled) in
    let stays3 = c.plan.ensures.stays stays2 in
    let durable = logged_now g.V.Vault.seen g.V.Vault.may_leave g.V.Vault.moment g.V.Vault.left_since what c.args.shape.now c.args.groups c.args.drives units lost v0 can only v1 read counts marked v2 moments settled v3 by in
    carrying g.V.Vault.seen g.V.Vault.may_leave g.V.Vault.moment g.V.Vault.left_since what c.args.shape.now c.args.groups c.args.drives units lost v0 can only v1 read counts marked v2 moments settled v3 by c.plan.new.batch planned c.carry_out.new.vault stop (c.carry_out.ensures.any_moment stays3 durable stop)

pub returns-clause-any_moment : goal.returns-clause-any_moment
returns-clause-any_moment g c = λ known what lost can stop.
    let units = c.args.shape.now.extents * extent_units c.args.shape.now.segments in
    let v0 = c.args.vault.now in
    let only : (stop : Stop) (i : Image) → g.V.Vault.left_since v0 stop (g.V.Vault.moment v0) i → g.V.Vault.may_leave v0 stop i = λ stop. g.met.V.Vault.only_now v0 known stop in
    let v1 = c.find_lost.new.vault in
    let read = c.find_lost.ensures.read known in
    let stays1 = c.find_lost.ensures.stays known in
    let counts = c.in_ok-counts.counts in
    let marked = c.in_ok-counts.ensures.marked known in
    let logged = (looked g.V.Vault.seen g.V.Vault.may_leave g.V.Vault.moment g.V.Vault.left_since what c.args.shape.now c.args.groups c.args.drives units lost v0 can only v1 read).logged in
    let v2 = c.prepare.new.vault in
    let moments : (stop : Stop) → LeavesOnly g.V.Vault.moment g.V.Vault.left_since stop v1 v2 (Matches lost (recovered (g.V.Vault.seen v1))) = λ stop. c.prepare.ensures.any_moment stays1 lost (rest g.V.Vault.seen g.V.Vault.may_leave g.V.Vault.moment g.V.Vault.left_since what c.args.shape.now c.args.groups c.args.drives units lost v0 can only v1 read counts marked) logged stop in
    let settled = c.in_ok-prepare.ensures.settled stays1 lost logged in
    let stays2 = c.prepare.ensures.stays stays1 in
    let v3 = c.plan.new.vault in
    let by = c.plan.ensures.read stays2 in
    let planned = c.in_ok-plan.ensures.planned stays2 what (array_found g.V.Vault.seen g.V.Vault.may_leave g.V.Vault.moment g.V.Vault.left_since what c.args.shape.now c.args.groups c.args.drives units lost v0 can only v1 read counts marked v2 moments settled) (ends_found g.V.Vault.seen g.V.Vault.may_leave g.V.Vault.moment g.V.Vault.left_since what c.args.shape.now c.args.groups c.args.drives units lost v0 can only v1 read counts marked v2 moments settled) in
    let stays3 = c.plan.ensures.stays stays2 in
    let durable = logged_now g.V.Vault.seen g.V.Vault.may_leave g.V.Vault.moment g.V.Vault.left_since what c.args.shape.now c.args.groups c.args.drives units lost v0 can only v1 read counts marked v2 moments settled v3 by in
    carrying g.V.Vault.seen g.V.Vault.may_leave g.V.Vault.moment g.V.Vault.left_since what c.args.shape.now c.args.groups c.args.drives units lost v0 can only v1 read counts marked v2 moments settled v3 by c.plan.new.batch planned c.carry_out.new.vault stop (c.carry_out.ensures.any_moment stays3 durable stop)

pub returns-clause-removed : goal.returns-clause-removed
returns-clause-removed g c = λ known what lost can.
    let units = c.args.shape.now.extents * extent_units c.args.shape.now.segments in
    let v0 = c.args.vault.now in
    let only : (stop : Stop) (i : Image) → g.V.Vault.left_since v0 stop (g.V.Vault.moment v0) i → g.V.Vault.may_leave v0 stop i = λ stop. g.met.V.Vault.only_now v0 known stop in
    let v1 = c.find_lost.new.vault in
    let read = c.find_lost.ensures.read known in
    let stays1 = c.find_lost.ensures.stays known in
    let counts = c.in_ok-counts.counts in
    let marked = c.in_ok-counts.ensures.marked known in
    let logged = (looked g.V.Vault.seen g.V.Vault.may_leave g.V.Vault.moment g.V.Vault.left_since what c.args.shape.now c.args.groups c.args.drives units lost v0 can only v1 read).logged in
    let v2 = c.prepare.new.vault in
    let moments : (stop : Stop) → LeavesOnly g.V.Vault.moment g.V.Vault.left_since stop v1 v2 (Matches lost (recovered (g.V.Vault.seen v1))) = λ stop. c.prepare.ensures.any_moment stays1 lost (rest g.V.Vault.seen g.V.Vault.may_leave g.V.Vault.moment g.V.Vault.left_since what c.args.shape.now c.args.groups c.args.drives units lost v0 can only v1 read counts marked) logged stop in
    let settled = c.in_ok-prepare.ensures.settled stays1 lost logged in
    let stays2 = c.prepare.ensures.stays stays1 in
    let v3 = c.plan.new.vault in
    let by = c.plan.ensures.read stays2 in
    let planned = c.in_ok-plan.ensures.planned stays2 what (array_found g.V.Vault.seen g.V.Vault.may_leave g.V.Vault.moment g.V.Vault.left_since what c.args.shape.now c.args.groups c.args.drives units lost v0 can only v1 read counts marked v2 moments settled) (ends_found g.V.Vault.seen g.V.Vault.may_leave g.V.Vault.moment g.V.Vault.left_since what c.args.shape.now c.args.groups c.args.drives units lost v0 can only v1 read counts marked v2 moments settled) in
    let stays3 = c.plan.ensures.stays stays2 in
    let durable = logged_now g.V.Vault.seen g.V.Vault.may_leave g.V.Vault.moment g.V.Vault.left_since what c.args.shape.now c.args.groups c.args.drives units lost v0 can only v1 read counts marked v2 moments settled v3 by in
    removed g.V.Vault.seen g.V.Vault.may_leave g.V.Vault.moment g.V.Vault.left_since what c.args.shape.now c.args.groups c.args.drives units lost v0 can only v1 read counts marked v2 moments settled v3 by c.plan.new.batch planned c.carry_out.new.vault (c.in_ok-carry_out.ensures.units stays3 durable) (c.in_ok-carry_out.ensures.durable stays3 durable)
