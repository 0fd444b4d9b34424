-- Which group has an extent on a drive.
use Rattle.std.specs.Prelude.{ℕ, ◌≤◌, ◌==◌, Option, IsSome, IsNone, position}
use Rattle.extent_groups.specs.Groups.{Groups, members_of}

-- the number of a group's member on the drive
abbrev pub member_on : Groups → ℕ → ℕ → Option ℕ
member_on groups g drive = position (λ m. m.drive == drive) (members_of groups g)

-- the group has a member on the drive
abbrev pub CarriesGroup : Groups → ℕ → ℕ → Type 0
CarriesGroup groups drive g = IsSome (member_on groups g drive)

-- the group has a member on the one drive, and none on the other
pub record CanGive (groups : Groups) (from to g : ℕ) : Type 0 where
  pub on : CarriesGroup groups from g
  pub off : IsNone (member_on groups g to)

-- the lowest number that has the property P
pub record IsLowest (P : ℕ → Type 0) (n : ℕ) : Type 0 where
  pub holds : P n
  pub least : (m : ℕ) → P m → n ≤ m
