-- The groups as units of the table. A group has two units, of four members each. Of each member they have the number of its group's
-- class, its drive, and its extent, the lower byte first; zeros where there is none. The last unit has the number of drives.
use Rattle.std.specs.Prelude.{◌≡◌, ◌≢◌, ◌⊎◌, is_some, true, ◌<◌, ◌+◌, ◌*◌, ◌/◌, ◌%◌, ◌++◌, ℕ, suc, Option, Some, None, List, [], ◌∷◌, length, replicate, slice_get}
use Rattle.extent_groups.specs.declared.class.Class.{Class}
use Rattle.extent_groups.specs.declared.class.Class.TheVariants.{Mirrored, Parity}
use Rattle.extent_groups.specs.declared.class.Member.{Member}
use Rattle.extent_groups.specs.Cells.{Cells, held}
use Rattle.extent_groups.specs.Planned.{Intended}
use Rattle.extent_groups.specs.declared.place.Place.{Place}
use Rattle.vault.specs.Attested.{IsLastIfAttested}
use Rattle.extent_groups.specs.Groups.{Groups, class_in, group_at, members_of}

-- the number of a class
abbrev pub class_number : Class → ℕ
class_number Mirrored = 1
class_number Parity = 2

-- the four bytes of a member of a group of this class
abbrev pub member_bytes : Class → Member → List ℕ
member_bytes class m = class_number class ∷ m.drive ∷ m.extent % 256 ∷ m.extent / 256 ∷ []

abbrev pub member_code : Option Class → Option Member → List ℕ
member_code None member = 0 ∷ 0 ∷ 0 ∷ 0 ∷ []
member_code (Some class) None = 0 ∷ 0 ∷ 0 ∷ 0 ∷ []
member_code (Some class) (Some m) = member_bytes class m

-- the unit of four members, from the one of this index on
abbrev pub half_code : Option Class → List Member → ℕ → List ℕ
half_code class members from = member_code class (slice_get members from) ++ (member_code class (slice_get members (from + 1))
    ++ (member_code class (slice_get members (from + 2)) ++ member_code class (slice_get members (from + 3))))

-- the unit of this index among those of all groups: the first has members 0 to 3 of group 0, the second members 4 to 7
abbrev pub group_unit : Groups → ℕ → List ℕ
group_unit groups u = half_code (class_in (group_at groups (u / 2))) (members_of groups (u / 2)) (4 * (u % 2))

-- the unit of a number of drives
abbrev pub count_unit : ℕ → List ℕ
count_unit count = count ∷ replicate 15 0

-- units spell these groups and this number of drives
pub record SpellsGroups (groups : Groups) (count : ℕ) (units : List (List ℕ)) : Type 0 where
  pub many : length units ≡ 1025
  pub each : (u : ℕ) → u < 1024 → slice_get units u ≡ Some (group_unit groups u)
  pub last : slice_get units 1024 ≡ Some (count_unit count)

-- a vault's table has these groups and this number of drives
pub record HasGroups (groups : Groups) (count : ℕ) (c : Cells) : Type 0 where
  pub each : (u : ℕ) → u < 1024 → c 16 (suc u) ≡ Some (group_unit groups u)
  pub last : c 16 1025 ≡ Some (count_unit count)

-- Of the units that spell the groups, those that are attested are the ones that were written last.
abbrev pub AreFormLastIfAttested : (attested : Place → Type 0) → (written now : Cells) → Type 0
AreFormLastIfAttested attested written now = (u : ℕ) → u < 1025 → IsLastIfAttested attested written now (record { drive = 16; address = suc u })

-- units are at the table's addresses
abbrev pub HasFormPlaces : Cells → Type 0
HasFormPlaces c = (u : ℕ) → u < 1025 → is_some (c 16 (suc u)) ≡ true

-- the write of the unit of this index
abbrev pub form_write : ℕ → List ℕ → Intended
form_write u unit = record { place = record { drive = 16; address = u + 1 }; unit = unit }

-- units that differ at most in those that spell the groups
abbrev pub SameButGroups : Cells → Cells → Type 0
SameButGroups c d = (x : Place) → (x.drive ≢ 16) ⊎ (x.address ≡ 0) → held c x ≡ held d x
