-- What a write of a slot is to reach: a unit of a row, with its place and the parity's.
use Rattle.std.specs.Prelude.{◌≡◌, ℕ, Some, List, slice_get}
use Rattle.extent_groups.specs.declared.place.Place.{Place}
use Rattle.extent_groups.specs.Groups.{Groups}
use Rattle.extent_groups.specs.Layout.{IsDriveDisjoint}
use Rattle.extent_groups.specs.Units.{Site, InStripe}
use Rattle.parity_store.specs.declared.target.Target.{Target}
use Rattle.parity_store.specs.Ways.{row_at, IsLaid}

-- a row with its unit's place and its parity's
pub record IsHome (row : List Place) (p i : ℕ) (home parity : Place) : Type 0 where
  pub whole : IsDriveDisjoint (InStripe row p i)
  pub home_is : slice_get row i ≡ Some home
  pub parity_is : slice_get row p ≡ Some parity

-- the places of the unit's row
abbrev pub row_to : Groups → Target → List Place
row_to groups target = row_at groups target.group target.at.offset

-- where the unit lies
abbrev pub site_to : Groups → Target → Site
site_to groups target = InStripe (row_to groups target) target.at.parity target.at.member

-- the unit can be read and written: both places are those of its row, which is one of drives whose units have this size
pub record IsAccessible {D : Type 0} (units : D → List (List ℕ)) (groups : Groups) (target : Target) (bytes : ℕ) (drives : List D) : Type 0 where
  pub home : IsHome (row_to groups target) target.at.parity target.at.member target.home target.parity
  pub laid : IsLaid units groups target.group target.at.offset bytes drives
