-- What a unit of a drive is, by the owners of the extents and the sites of the slots.
use Rattle.std.specs.Prelude.{◌≡◌, ℕ, ◌/◌, ◌==◌, Bool, false, Option, Some, None, List, length, slice_get}
use Rattle.extents.specs.Owners.{Owners, owner_of}
use Rattle.extent_groups.specs.declared.class.Class.{Class}
use Rattle.extent_groups.specs.declared.class.Class.TheVariants.{Mirrored, Parity}
use Rattle.extent_groups.specs.declared.place.Place.{Place}
use Rattle.extent_groups.specs.Geometry.{copies_of}
use Rattle.extent_groups.specs.Groups.{Group, Groups, members_of, HasMemberAt}
use Rattle.extent_groups.specs.Layout.{IsOf}
use Rattle.extent_groups.specs.Units.{Site, Pair, InStripe, site_of, place_of}
use Rattle.picture.specs.Blocks.{block_in}
use Rattle.picture.specs.declared.mark.Mark.{Mark}
use Rattle.picture.specs.declared.mark.Mark.TheVariants as mark

-- the place is the slot's first: the first of its two copies, or its member's in its row
abbrev pub IsFirstPlace : Site → Place → Type 0
IsFirstPlace (Pair p q) x = x ≡ p
IsFirstPlace (InStripe row parity i) x = slice_get row i ≡ Some x

-- the place is the slot's second copy
abbrev pub IsSecond : Site → Place → Type 0
IsSecond (Pair p q) x = x ≡ q
IsSecond (InStripe row parity i) x = ⊥

-- the place has the parity of the slot's row
abbrev pub IsParity : Site → Place → Type 0
IsParity (Pair p q) x = ⊥
IsParity (InStripe row parity i) x = slice_get row parity ≡ Some x

-- the slot has a site, and the place has this part in it
abbrev pub HasAt : Groups → ℕ → (Site → Place → Type 0) → Place → Type 0
HasAt groups slot IsPart x = (site : Site) × (site_of groups slot ≡ Some site) × IsPart site x

-- what a place of an extent of this group is
abbrev pub IsMarkIn : Groups → List (Option ℕ) → ℕ → Place → Mark → Type 0
IsMarkIn groups blocks group x mark.Free = ⊥
IsMarkIn groups blocks group x (mark.Stray owner) = ⊥
IsMarkIn groups blocks group x (mark.Unit slot block) = HasAt groups slot IsFirstPlace x × (slot / 128 ≡ group) × (block ≡ block_in blocks slot)
IsMarkIn groups blocks group x (mark.SecondCopy slot block) = HasAt groups slot IsSecond x × (slot / 128 ≡ group) × (block ≡ block_in blocks slot)
IsMarkIn groups blocks group x (mark.Parity owner) = (owner ≡ group) × ((slot : ℕ) × HasAt groups slot IsParity x × (slot / 128 ≡ group))
IsMarkIn groups blocks group x (mark.Unused owner) = (owner ≡ group) × ((slot : ℕ) → HasAt groups slot IsOf x → ⊥)

-- the extent is a member of the group that owns it, and this is what its place at the offset is
pub record IsMarkOf (groups : Groups) (owners : Owners) (blocks : List (Option ℕ)) (drive extent offset : ℕ) (mark : Mark) : Type 0 where
  pub group : ℕ
  pub owned : owner_of owners drive extent ≡ Some group
  pub member : HasMemberAt (members_of groups group) drive extent
  pub is : IsMarkIn groups blocks group (place_of groups.segments offset (record { drive = drive; extent = extent })) mark

-- what the unit at an offset of a drive's extent is
abbrev pub IsMark : Groups → Owners → List (Option ℕ) → ℕ → ℕ → ℕ → Mark → Type 0
IsMark groups owners blocks drive extent offset mark.Free = owner_of owners drive extent ≡ None
IsMark groups owners blocks drive extent offset (mark.Stray group) =
    (owner_of owners drive extent ≡ Some group) × (HasMemberAt (members_of groups group) drive extent → ⊥)
IsMark groups owners blocks drive extent offset m = IsMarkOf groups owners blocks drive extent offset m

-- a member of an optional group has the second copy of an index
abbrev pub is_second_of : Class → ℕ → ℕ → ℕ → Bool
is_second_of Mirrored n i m = (copies_of n i).second.member == m
is_second_of Parity n i m = false

abbrev pub is_second_in : Option Group → ℕ → ℕ → Bool
is_second_in None i m = false
is_second_in (Some group) i m = is_second_of group.class (length group.members) i m
