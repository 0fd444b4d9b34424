-- A whole extent written with the same bytes.
use Rattle.std.specs.Prelude.{◌≡◌, ℕ, ◌<◌, Bool, Some, List}
use Rattle.extents.specs.Failures.{Failures}
use Rattle.extents.specs.Sizes.{extent_units}
use Rattle.extent_groups.specs.declared.class.Member.{Member}
use Rattle.extent_groups.specs.declared.place.Place.{Place}
use Rattle.extent_groups.specs.Cells.{Cells, cells, held}
use Rattle.extent_groups.specs.Calls.{IsPlace, SameBut, KeepsDrives}
use Rattle.extent_groups.specs.Units.{place_of}

-- the drives have each place of the extent
abbrev pub HasExtent : {D : Type 0} → (D → List (List ℕ)) → ℕ → List D → Member → Type 0
HasExtent units segments drives member = (offset : ℕ) → offset < extent_units segments → IsPlace units drives (place_of segments offset member)

-- the place is one of the extent's
abbrev pub IsInExtent : ℕ → Member → Place → Type 0
IsInExtent segments member x = (offset : ℕ) × (offset < extent_units segments) × (x ≡ place_of segments offset member)

-- the extent's places below an offset hold these bytes
abbrev pub HoldBelow : ℕ → Member → List ℕ → ℕ → Cells → Type 0
HoldBelow segments member bytes bound c = (offset : ℕ) → offset < bound → held c (place_of segments offset member) ≡ Some bytes

-- the extent's places below an offset were written with these bytes
pub record IsWipedTo {D : Type 0} (units : D → List (List ℕ)) (lost : D → Bool) (failures : D → Failures) (segments : ℕ) (member : Member) (bytes : List ℕ) (bound : ℕ) (old new : List D) : Type 0 where
  pub wiped : HoldBelow segments member bytes bound (cells units lost new)
  pub others : SameBut (λ d. d ≡ member.drive) old new
  pub touched : KeepsDrives units lost failures (IsInExtent segments member) old new
