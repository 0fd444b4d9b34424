-- Which slots are gone, and how much each group misses, stated over the geometry and the lost drives alone.
use Rattle.std.specs.Prelude.{◌≡◌, ◌≢◌, ℕ, Bool, true, Option, Some, None, List, slice_get}
use Rattle.extent_groups.specs.declared.class.Member.{Member}
use Rattle.extent_groups.specs.declared.place.Place.{Place}
use Rattle.extent_groups.specs.Groups.{Groups, members_of}
use Rattle.extent_groups.specs.Units.{Site, Pair, InStripe, site_of}

-- whether an optional drive is missing: lost, or not there
abbrev pub is_missing : {D : Type 0} → (D → Bool) → Option D → Bool
is_missing lost None = true
is_missing lost (Some drive) = lost drive

-- which of the drives are missing, by number
abbrev pub missing_of : {D : Type 0} → (D → Bool) → List D → ℕ → Bool
missing_of lost drives drive = is_missing lost (slice_get drives drive)

-- a site is gone where both its copies' drives are missing, or its member's in the row and another's
abbrev pub IsGoneAt : (ℕ → Bool) → Site → Type 0
IsGoneAt missing (Pair p q) = (missing p.drive ≡ true) × (missing q.drive ≡ true)
IsGoneAt missing (InStripe row parity i) =
    ((x : Place) × (slice_get row i ≡ Some x) × (missing x.drive ≡ true))
    × ((k : ℕ) × (y : Place) × (k ≢ i) × (slice_get row k ≡ Some y) × (missing y.drive ≡ true))

-- a slot is gone: it has no effective unit, because of lost drives
abbrev pub IsGone : Groups → (ℕ → Bool) → ℕ → Type 0
IsGone groups missing slot = (site : Site) × (site_of groups slot ≡ Some site) × IsGoneAt missing site

-- each group misses at most one member
abbrev pub MissAtMostOne : Groups → (ℕ → Bool) → Type 0
MissAtMostOne groups missing = (g j k : ℕ) (a b : Member) → slice_get (members_of groups g) j ≡ Some a → slice_get (members_of groups g) k ≡ Some b
    → missing a.drive ≡ true → missing b.drive ≡ true → j ≡ k
