-- Which places a site has, and that the sites of different slots keep apart.
use Rattle.std.specs.Prelude.{◌≡◌, ◌≢◌, ℕ, ◌<◌, ◌⊎◌, Some, length, slice_get}
use Rattle.extent_groups.specs.declared.place.Place.{Place}
use Rattle.extent_groups.specs.Groups.{Groups}
use Rattle.extent_groups.specs.Units.{Site, Pair, InStripe, site_of}

-- a place is one of a site's: one of its two, or one of its row
abbrev pub IsOf : Site → Place → Type 0
IsOf (Pair p q) x = (x ≡ p) ⊎ (x ≡ q)
IsOf (InStripe row parity i) x = (k : ℕ) × (slice_get row k ≡ Some x)

-- two sites have no place in common
abbrev pub IsApart : Site → Site → Type 0
IsApart a b = (x : Place) → IsOf a x → IsOf b x → ⊥

-- two sites are different members of one row, with one parity
abbrev pub AreNearby : Site → Site → Type 0
AreNearby (InStripe row parity i) (InStripe other wanders j) = (other ≡ row) × (wanders ≡ parity) × (j ≢ i)
AreNearby _ _ = ⊥

-- a site lies on different drives: its two places do, or all of its row, in which it isn't the parity's member
abbrev pub IsDriveDisjoint : Site → Type 0
IsDriveDisjoint (Pair p q) = p.drive ≢ q.drive
IsDriveDisjoint (InStripe row parity i) =
    (i < length row) × (parity < length row) × (i ≢ parity)
    × ((j k : ℕ) (x y : Place) → slice_get row j ≡ Some x → slice_get row k ≡ Some y → x.drive ≡ y.drive → j ≡ k)

-- every slot's site is whole, and those of two slots have no place in common, or are different members of one row
pub record IsLayout (groups : Groups) : Type 0 where
  pub whole : (slot : ℕ) (a : Site) → site_of groups slot ≡ Some a → IsDriveDisjoint a
  pub apart : (slot other : ℕ) (a b : Site) → slot ≢ other → site_of groups slot ≡ Some a → site_of groups other ≡ Some b → IsApart a b ⊎ AreNearby a b
