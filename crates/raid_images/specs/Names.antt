-- Which names are of one file.
use Rattle.std.specs.Prelude.{◌≡◌, ◌⊎◌, ◌<◌, ℕ, List, Option, Some, slice_get}
use Rattle.raid_images.specs.declared.names.Node.{Node}
use Rattle.raid_images.specs.declared.names.Spot.{Spot}

-- two names in one folder, with one last part
pub record IsOneEntry (one other : Spot) : Type 0 where
  pub folder : one.folder ≡ other.folder
  pub last : one.last.items ≡ other.last.items

-- two files that are there, and are one
pub record IsOneNode (one other : Option Node) : Type 0 where
  pub node : Node
  pub first : one ≡ Some node
  pub second : other ≡ Some node

-- two names of one file
abbrev pub AreOne : Spot → Spot → Type 0
AreOne one other = IsOneEntry one other ⊎ IsOneNode one.node other.node

-- the names of these numbers are of one file, the lower number first
pub record AreTwins (spots : List Spot) (lower higher : ℕ) : Type 0 where
  pub order : lower < higher
  pub first : Spot
  pub second : Spot
  pub first_at : slice_get spots lower ≡ Some first
  pub second_at : slice_get spots higher ≡ Some second
  pub one : AreOne first second

-- no two names are of one file
abbrev pub HasNoAliases : List Spot → Type 0
HasNoAliases spots = (lower higher : ℕ) → AreTwins spots lower higher → ⊥
