use Rattle.std.proofs.Common.{◌<◌, length, arith}
use Rattle.std.proofs.lemmas.Option.{slice_get-get_or}
use Rattle.extent_groups.proofs.DriveCalls.{keeps_one, keeps_trans, kept_same}
use Rattle.extent_groups.proofs.place.sync_drives.Goals as goal

pub loop-number-preserved : goal.loop-number-preserved
loop-number-preserved g c =
    let e = c.sync.ensures in
    let inside : c.loop-number.number < length c.loop-number.drives = omega (arith, c.loop-number-test.true, c.loop-number.invariant.touched.many) in
    let there = slice_get-get_or c.loop-number.drives c.loop-number.number c.index-drives-number.result inside in
    record {
      touched = keeps_trans c.loop-number.invariant.touched
          (keeps_one _ _ _ _ c.loop-number.drives c.loop-number.number _ _ inside there (kept_same _ _ e.units e.stays e.count e.steady));
    }
