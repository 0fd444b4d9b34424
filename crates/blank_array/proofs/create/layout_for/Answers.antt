use Rattle.std.proofs.Common.{◌+◌, ◌*◌, ◌∙◌, refl, ap, arith}
use Rattle.std.proofs.lemmas.List.{length-set}
use Rattle.extents.specs.Sizes.{extent_units}
use Rattle.extents.specs.declared.shape.TheConstants.{HEADER_BYTES}
use Rattle.blank_array.proofs.Created.{counts_more}
use Rattle.blank_array.proofs.create.layout_for.Goals as goal

pub loop-drive-preserved : goal.loop-drive-preserved
loop-drive-preserved c =
    let n = c.loop-drive.drive in
    let counts = c.loop-drive.counts in
    let long = c.loop-drive.invariant.long in
    record {
      long = length-set counts n c.count_at.result ∙ long;
      each = counts_more counts n c.count_at.result c.drive_units-units.result c.args.drives (omega (arith, c.loop-drive-test.true, long)) c.count_at.ensures c.loop-drive.invariant.each;
    }

pub returns : goal.returns
returns c = λ groups most is. record {
  most = most;
  bytes = c.unit_bytes.ensures ∙ ap (λ n. HEADER_BYTES + n) is.of_payload;
  table = refl;
  counts = λ d low. c.loop-drive.invariant.each d (omega (arith, low, most, c.loop-drive-test.false)) low ∙ c.drive_units-units.ensures
      ∙ (ap (λ n. n * extent_units c.args.shape.now.segments) is.of_extents ∙ ap (λ n. groups.extents * extent_units n) is.of_segments);
}
