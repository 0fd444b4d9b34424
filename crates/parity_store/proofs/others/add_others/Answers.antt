use Rattle.std.proofs.Common.{refl, ◌∙◌, ◌+◌, length}
use Rattle.extent_groups.specs.Cells.{cells, front_units}
use Rattle.extent_groups.specs.Units.{row_of}
use Rattle.parity_store.specs.Ways.{row_at}
use Rattle.extent_groups.proofs.DriveCalls.{keeps_none, keeps_trans}
use Rattle.extent_groups.proofs.Fronts.{keeps_room}
use Rattle.extent_groups.proofs.Elsewhere.{same_trans}
use Rattle.parity_store.proofs.Laid.{still_readable}
use Rattle.parity_store.proofs.Sums.{sum_begun, sum_more, missed_after}
use Rattle.parity_store.proofs.Whole.{one_as_far, missed_as_far}
use Rattle.parity_store.proofs.others.add_others.Goals as goal

pub loop-number-init : goal.loop-number-init
loop-number-init g c = record {
  same = λ x. refl;
  sum = sum_begun c.args.sum.now (row_of (cells (front_units (length c.args.sum.now) g.D.Drive.units) g.D.Drive.lost c.args.drives.now) (row_at c.args.groups.now c.args.others.group c.args.others.offset)) c.args.others.first c.args.others.second;
  touched = keeps_none c.args.drives.now;
  elsewhere = λ d apart. refl;
}

pub add_member-requires-clause-readable : goal.add_member-requires-clause-readable
add_member-requires-clause-readable g c = still_readable c.loop-number.invariant.touched c.loop-number.auto.sum c.requires.readable

pub add_member-requires-clause-scratch : goal.add_member-requires-clause-scratch
add_member-requires-clause-scratch g c = keeps_room c.loop-number.invariant.touched c.loop-number.auto.sum c.loop-number.auto.scratch c.requires.scratch

pub returns-then-not-add_member-clause-touched : goal.returns-then-not-add_member-clause-touched
returns-then-not-add_member-clause-touched g c = keeps_trans c.loop-number.invariant.touched c.add_member.ensures.touched

pub returns-then-not-add_member-clause-elsewhere : goal.returns-then-not-add_member-clause-elsewhere
returns-then-not-add_member-clause-elsewhere g c =
    same_trans c.args.drives.now c.loop-number.drives c.add_member.new.drives c.loop-number.invariant.elsewhere c.add_member.ensures.elsewhere

pub returns-then-not-add_member-clause-outcome : goal.returns-then-not-add_member-clause-outcome
returns-then-not-add_member-clause-outcome g c =
    missed_after _ _ _ _ c.args.others.first c.args.others.second c.loop-number.invariant.same
    (missed_as_far g.D.Drive.units g.D.Drive.lost c.loop-number.drives c.add_member.new.drives _ _ _ c.args.others.first c.args.others.second c.loop-number.auto.sum c.if-not-add_member.ensures.outcome)

pub loop-number-preserved : goal.loop-number-preserved
loop-number-preserved g c =
    let one = one_as_far g.D.Drive.units g.D.Drive.lost c.loop-number.drives c.add_member.new.drives _ _ _ c.args.others.first c.args.others.second c.loop-number.number c.loop-number.sum c.add_member.new.sum c.loop-number.auto.sum c.if-not-add_member.ensures.outcome in
    record {
      same = λ x. one.same x ∙ c.loop-number.invariant.same x;
      sum = sum_more _ _ _ _ c.args.others.first c.args.others.second c.loop-number.number (c.loop-number.number + 1) c.args.sum.now c.loop-number.sum c.add_member.new.sum refl c.loop-number.invariant.same c.loop-number.invariant.sum one.sum;
      touched = keeps_trans c.loop-number.invariant.touched c.add_member.ensures.touched;
      elsewhere = same_trans c.args.drives.now c.loop-number.drives c.add_member.new.drives c.loop-number.invariant.elsewhere c.add_member.ensures.elsewhere;
    }
