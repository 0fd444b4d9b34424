use Rattle.std.proofs.Common.{sym, subst, arith, true}
use Rattle.std.specs.Prelude.{slice_set}
use Rattle.cached_drive.specs.Saving.{AreDirtyMarks}
use Rattle.cached_drive.proofs.Marking.{marked_more, marked_same}
use Rattle.cached_drive.proofs.drive.list_fresh.Goals as goal

pub returns-clause-marked : goal.returns-clause-marked
returns-clause-marked c =
    let same = c.make_marks.ensures.same in
    let low = c.requires.at in
    let long = c.in_ok-make_marks.ensures.long in
    subst (AreDirtyMarks (slice_set c.make_marks.new.marks.items c.args.at true)) (sym c.in_ok-push.ensures.items)
    (marked_more c.make_marks.new.marks.items c.args.dirty.now.items c.args.at (marked_same c.args.marks.now.items c.make_marks.new.marks.items c.args.dirty.now.items c.requires.marked same)
    (λ mark. c.requires.fresh ((same c.args.at).0 mark)) (omega (arith, low, long)))
