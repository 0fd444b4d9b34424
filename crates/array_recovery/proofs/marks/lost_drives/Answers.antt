use Rattle.std.proofs.Common.{◌∙◌, arith}
use Rattle.std.proofs.lemmas.List.{length-set}
use Rattle.std.proofs.lemmas.Option.{slice_get-get_or}
use Rattle.array_recovery.proofs.Marking.{gone_more, gone_all}
use Rattle.array_recovery.proofs.marks.lost_drives.Goals as goal

pub loop-drive-preserved : goal.loop-drive-preserved
loop-drive-preserved c =
    let n = c.loop-drive.drive in
    let lost = c.loop-drive.lost in
    record {
      long = length-set lost n c.is_gone.result ∙ c.loop-drive.invariant.long;
      each = gone_more c.args.marks.now c.args.absent.now lost n _ _ c.is_gone.result (let long = c.loop-drive.invariant.long in omega (arith, c.loop-drive-test.true, long))
          (slice_get-get_or c.args.marks.now n _ (omega (arith, c.loop-drive-test.true, c.told-marks)))
          (slice_get-get_or c.args.absent.now n _ (omega (arith, c.loop-drive-test.true, c.told-absent))) c.is_gone.ensures c.loop-drive.invariant.each;
    }

pub returns-clause-gone : goal.returns-clause-gone
returns-clause-gone c =
    gone_all c.args.marks.now c.args.absent.now c.loop-drive.lost c.told-marks c.told-absent c.loop-drive.invariant.long
    (λ d low. c.loop-drive.invariant.each d (omega (arith, low, c.loop-drive-test.false)))
