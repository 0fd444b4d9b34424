use Rattle.std.proofs.Common.{◌≡◌, ℕ, ◌*◌, ◌+◌, length, Some}
use Rattle.std.specs.Prelude.{slice_get}
use Rattle.tests_stores.specs.declared.recorded.Recorder.{Recorder}
use Rattle.extents.specs.Units.{zero_units}
use Rattle.extents.specs.Sizes.{extent_units}
use Rattle.extents.specs.declared.shape.TheConstants.{HEADER_BYTES}
use Rattle.tests_stores.proofs.recorded.new_recorders.Given as goal

abbrev pub invariant-loop-number : goal.invariant-loop-number
invariant-loop-number l =
    (length l.drives.items ≡ l.number) × ((d : ℕ) (x : Recorder) → slice_get l.drives.items d ≡ Some x → x.drive.units ≡ zero_units (HEADER_BYTES + l.shape.payload) (l.shape.extents * extent_units l.shape.segments))
