-- What a loss from outside leaves of an array's parts.
use Rattle.std.specs.Prelude.{◌≡◌, ℕ, true, length, Option, Some, slice_get, slice_set}
use Rattle.extents.specs.Failures.{settled, fused}
use Rattle.flat_machine.specs.Flat.{Stored, put}
use Rattle.unit_store.specs.Views.{DriveView, PartsView, Shows, SameTables, lost_of, failed_of}

-- the drive is lost, which counts as no failure of its own, and no such failure lies ahead; nothing else happened
pub record WasLost (a b : PartsView) (drive : ℕ) : Type 0 where
  pub drives : (x : DriveView) → slice_get a.drives drive ≡ Some x → b.drives ≡ slice_set a.drives drive (record x { lost = true; failures = settled x.failures })
  pub lost : (d : ℕ) → lost_of b d ≡ put (lost_of a) drive true d
  pub failures : (d : ℕ) → failed_of b d ≡ put (failed_of a) drive (settled (failed_of a drive)) d
  pub shows : (units : ℕ → Option Stored) → Shows a units → Shows b units
  pub many : length b.drives ≡ length a.drives
  pub rest : SameTables a b

-- the drive has a fuse, if it isn't lost, and nothing else happened
pub record WasFused (a b : PartsView) (drive : ℕ) : Type 0 where
  pub drives : (x : DriveView) → slice_get a.drives drive ≡ Some x → b.drives ≡ slice_set a.drives drive (record x { failures = fused x.lost x.failures })
  pub lost : (d : ℕ) → lost_of b d ≡ lost_of a d
  pub failures : (d : ℕ) → failed_of b d ≡ put (failed_of a) drive (fused (lost_of a drive) (failed_of a drive)) d
  pub shows : (units : ℕ → Option Stored) → Shows a units → Shows b units
  pub many : length b.drives ≡ length a.drives
  pub rest : SameTables a b
