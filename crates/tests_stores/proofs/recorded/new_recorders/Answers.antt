use Rattle.std.proofs.Common.{◌≡◌, ◌*◌, ◌+◌, ◌∙◌, ap}
use Rattle.std.proofs.lemmas.List.{length_push}
use Rattle.extents.specs.Units.{zero_units}
use Rattle.extents.specs.Sizes.{extent_units}
use Rattle.extents.specs.declared.shape.TheConstants.{HEADER_BYTES}
use Rattle.extent_groups.proofs.Readiness.{each_more}
use Rattle.tests_stores.specs.declared.recorded.Recorder.{Recorder}
use Rattle.tests_stores.proofs.recorded.new_recorders.Goals as goal

pub loop-number-preserved : goal.loop-number-preserved
loop-number-preserved c =
    rw (c.in_ok-push.ensures.items) (
      length_push c.loop-number.drives.items c.in_ok-new_recorder.field-0 ∙ ap (λ n. n + 1) c.loop-number.invariant.0,
      each_more (λ (x : Recorder). x.drive.units ≡ zero_units (HEADER_BYTES + c.args.shape.now.payload) (c.args.shape.now.extents * extent_units c.args.shape.now.segments))
          c.loop-number.drives.items c.in_ok-new_recorder.field-0 c.loop-number.invariant.1 c.in_ok-new_recorder.ensures,
    )
