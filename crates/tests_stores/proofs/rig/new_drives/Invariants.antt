use Rattle.std.proofs.Common.{◌≡◌, ℕ, ◌*◌, ◌+◌, length, Some}
use Rattle.std.specs.Prelude.{slice_get}
use Rattle.extents.specs.Condition.{Held}
use Rattle.extents.specs.Units.{zero_units}
use Rattle.extents.specs.Sizes.{extent_units}
use Rattle.extents.specs.declared.shape.TheConstants.{HEADER_BYTES}
use Rattle.tests_stores.proofs.rig.new_drives.Given as goal

abbrev pub invariant-loop-drive : goal.invariant-loop-drive
invariant-loop-drive l =
    (length l.drives.items ≡ l._drive) × ((d : ℕ) (x : Held) → slice_get l.drives.items d ≡ Some x → x.units ≡ zero_units (HEADER_BYTES + l.shape.payload) (l.shape.extents * extent_units l.shape.segments))
