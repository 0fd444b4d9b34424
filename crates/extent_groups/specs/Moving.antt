-- A member's units copied onto another extent.
use Rattle.std.specs.Prelude.{◌≡◌, ℕ, ◌*◌, ◌/◌, ◌<◌, Option, Some, List}
use Rattle.extent_groups.specs.declared.class.Member.{Member}
use Rattle.extent_groups.specs.declared.place.Place.{Place}
use Rattle.extent_groups.specs.Groups.{Groups}
use Rattle.extent_groups.specs.Cells.{Cells, held}
use Rattle.extent_groups.specs.Calls.{FadesAt}
use Rattle.extent_groups.specs.Units.{Site, Pair, InStripe, unit_at, site_of, place_of}
use Rattle.extent_groups.specs.Layout.{IsOf}
use Rattle.extent_groups.specs.Stores.{unit_bytes}
use Rattle.extent_groups.specs.Wiping.{IsInExtent}

-- the unit that a member is to hold for a site: of a pair the pair's, of a row the member's own effective one
abbrev pub member_unit : ℕ → Cells → Site → ℕ → Option (List ℕ)
member_unit bytes c (Pair p q) k = unit_at bytes c (Pair p q)
member_unit bytes c (InStripe row parity i) k = unit_at bytes c (InStripe row parity k)

-- the units of a group's member of this number were copied to another extent: what that holds is what the member was to hold,
-- and every other place holds what it held, or its drive is lost
pub record IsCopied (groups : Groups) (g k : ℕ) (was to : Member) (c new : Cells) : Type 0 where
  pub nearby : (x : Place) → (IsInExtent groups.segments to x → ⊥) → FadesAt c new x
  pub copied : (slot offset : ℕ) (site : Site) (unit : List ℕ) → slot / 128 ≡ g → site_of groups slot ≡ Some site → offset < 2 * groups.segments
      → IsOf site (place_of groups.segments offset was) → held new (place_of groups.segments offset to) ≡ Some unit
      → member_unit (unit_bytes groups) c site k ≡ Some unit
