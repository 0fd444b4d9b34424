use Rattle.std.proofs.Common.{◌∙◌}
use Rattle.drive_removal.proofs.Lists.{none_absent}
use Rattle.drive_removal.proofs.stages.find_lost.Goals as goal

pub returns-clause-marked : goal.returns-clause-marked
returns-clause-marked g c = λ known. record {
  marks = c.in_ok-marks.marks;
  wide = c.lost_drives.ensures.long;
  table = c.in_ok-marks.ensures.marks known;
  others = c.in_ok-test_marks.ensures;
  counts_are = λ d. c.lost_drives.ensures.gone.each d ∙ none_absent c.in_ok-marks.marks 16 d;
}
