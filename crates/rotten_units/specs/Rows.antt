-- Which places of a slot are noted, and when two states of the drives have the same units.
use Rattle.std.specs.Prelude.{◌≡◌, ◌<◌, ℕ, Bool, false, Some, List, length, slice_get}
use Rattle.extent_groups.specs.declared.place.Place.{Place}
use Rattle.extent_groups.specs.Groups.{AreGroups, Groups}
use Rattle.extent_groups.specs.Cells.{Cells, held}
use Rattle.extent_groups.specs.Layout.{IsOf}
use Rattle.extent_groups.specs.Stores.{unit_bytes}
use Rattle.extent_groups.specs.Units.{IsSoundAt, Site, site_of}

-- of the two copies of a slot, or of its row, one place at most is noted
abbrev pub NotesOne : (Place → Type 0) → Site → Type 0
NotesOne noted site = (x y : Place) → IsOf site x → IsOf site y → noted x → noted y → x ≡ y

-- the same of a slot, of each slot below one, and of all slots of the groups
abbrev pub IsNotedOnce : (Place → Type 0) → Groups → ℕ → Type 0
IsNotedOnce noted groups slot = (site : Site) → site_of groups slot ≡ Some site → NotesOne noted site

abbrev pub AreNotedOnceBelow : (Place → Type 0) → Groups → ℕ → Type 0
AreNotedOnceBelow noted groups end = (slot : ℕ) → slot < end → IsNotedOnce noted groups slot

abbrev pub AreNotedOnce : (Place → Type 0) → Groups → Type 0
AreNotedOnce noted groups = (slot : ℕ) → IsNotedOnce noted groups slot

-- no place of the copies of a slot, or of its row, is noted
abbrev pub NotesNone : (Place → Type 0) → Site → Type 0
NotesNone noted site = (x : Place) → IsOf site x → noted x → ⊥

abbrev pub IsUntouched : (Place → Type 0) → Groups → ℕ → Type 0
IsUntouched noted groups slot = (site : Site) → site_of groups slot ≡ Some site → NotesNone noted site

-- a place of a copy of a slot, or of its row
abbrev pub IsPlaceUsed : Groups → Place → Type 0
IsPlaceUsed groups x = (slot : ℕ) × (site : Site) × (site_of groups slot ≡ Some site) × IsOf site x

-- the same units at all places that the groups use
abbrev pub SameUsed : Groups → Cells → Cells → Type 0
SameUsed groups c d = (x : Place) → IsPlaceUsed groups x → held c x ≡ held d x

-- each place of a site has a unit of n bytes
abbrev pub IsSiteSized : ℕ → Cells → Site → Type 0
IsSiteSized n c site = (x : Place) → IsOf site x → (u : List ℕ) × (held c x ≡ Some u) × (length u ≡ n)

-- No unit of the groups is missing, and all slots are sound: copies are equal, and rows add up to zero.
pub record AreRowsWhole (groups : Groups) (c : Cells) : Type 0 where
  pub formed : AreGroups groups
  pub sized : (slot : ℕ) (site : Site) → site_of groups slot ≡ Some site → IsSiteSized (unit_bytes groups) c site
  pub sound : (slot : ℕ) (site : Site) → site_of groups slot ≡ Some site → IsSoundAt (unit_bytes groups) c site

-- of the first places of a row one at most is noted, and none unless it is said so
pub record FirstNotesOne (noted : Place → Type 0) (row : List Place) (count : ℕ) (seen : Bool) : Type 0 where
  pub one : (j k : ℕ) (x y : Place) → j < count → k < count → slice_get row j ≡ Some x → slice_get row k ≡ Some y → noted x → noted y → x ≡ y
  pub none : seen ≡ false → (k : ℕ) (x : Place) → k < count → slice_get row k ≡ Some x → noted x → ⊥
