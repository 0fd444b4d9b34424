use Rattle.std.proofs.Common.{arith, ◌∙◌, sym}
use Rattle.map_join.proofs.Placing.{count_more, count_skip, is_set, not_set}
use Rattle.map_join.proofs.newest.count_marks.Goals as goal
use Rattle.map_join.proofs.newest.count_marks.Goals.{then-marks-index, else-marks-index}

pub loop-index-preserved : goal.loop-index-preserved
loop-index-preserved c =
    let done = c.loop-index.invariant in
    elim c.if-marks-index.branch [
      | then-marks-index w ↦
          let more = count_more c.args.marks.now c.args.group c.args.slots c.loop-index.index c.loop-index.count done.0 c.loop-index-test.true c.requires
          (is_set c.args.marks.now c.loop-index.index c.told-marks (omega arith) w.if-marks-index.true) done.1 done.2 in
          (more.0, more.1, more.2 ∙ sym w.count-is, omega (arith, done.3))
      | else-marks-index w ↦
          let more = count_skip c.args.marks.now c.args.group c.args.slots c.loop-index.index c.loop-index.count done.0 (omega arith)
          (not_set c.args.marks.now c.loop-index.index w.if-marks-index.false) done.1 done.2 in
          (more.0, more.1, more.2 ∙ sym w.count-is, omega (arith, done.3))
    ]
