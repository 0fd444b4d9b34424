-- What a slot holds, however its drives fare, and when its group's redundancy is as it should be.
use Rattle.std.specs.Prelude.{◌≡◌, ℕ, zero, suc, ◌/◌, ◌%◌, nat_lt, ◌==◌, bit_xor, if◌then◌else◌, Option, Some, None, List, length, map, slice_get, slice_index_or, replicate}
use Rattle.std.specs.Simd.Lanes.{zip2}
use Rattle.extents.specs.Sizes.{unit_address}
use Rattle.extent_groups.specs.declared.class.Class.{Class}
use Rattle.extent_groups.specs.declared.class.Class.TheVariants.{Mirrored, Parity}
use Rattle.extent_groups.specs.declared.class.Member.{Member}
use Rattle.extent_groups.specs.Geometry.{slot_count, copies_of, stripe_of}
use Rattle.extent_groups.specs.Groups.{Group, Groups, group_at}
use Rattle.extent_groups.specs.declared.place.Place.{Place}
use Rattle.extent_groups.specs.Cells.{Cells, held}

-- where a slot lies: in two places, or on one member of a row whose parity is on another
pub data Site : Type 0 where
  Pair : (first second : Place) → Site
  InStripe : (row : List Place) (parity member : ℕ) → Site

-- the exclusive or of two units, byte by byte
abbrev pub plus : List ℕ → List ℕ → List ℕ
plus = zip2 bit_xor

-- the exclusive or of two units that may be missing
abbrev pub add : Option (List ℕ) → Option (List ℕ) → Option (List ℕ)
add (Some u) (Some v) = Some (plus u v)
add _ _ = None

-- the exclusive or of the units of members 0 to m - 1, each of `bytes` bytes; none where one is missing
abbrev pub xor_total : ℕ → ℕ → (ℕ → Option (List ℕ)) → Option (List ℕ)
xor_total bytes zero row = Some (replicate bytes 0)
xor_total bytes (suc m) row = add (row m) (xor_total bytes m row)

-- a row with one member's unit put in the place of what it holds
abbrev pub put : (ℕ → Option (List ℕ)) → ℕ → Option (List ℕ) → ℕ → Option (List ℕ)
put row i unit k = if k == i then unit else row k

-- the exclusive or of the units of all members but one: that one counts as zeros
abbrev pub others : ℕ → ℕ → (ℕ → Option (List ℕ)) → ℕ → Option (List ℕ)
others bytes m row i = xor_total bytes m (put row i (Some (replicate bytes 0)))

-- the first of two that is there
abbrev pub or_else : Option (List ℕ) → Option (List ℕ) → Option (List ℕ)
or_else (Some u) _ = Some u
or_else None v = v

-- what an optional place holds
abbrev pub held_in : Cells → Option Place → Option (List ℕ)
held_in c None = None
held_in c (Some p) = held c p

-- what the members of a row hold, by number
abbrev pub row_of : Cells → List Place → ℕ → Option (List ℕ)
row_of c places k = held_in c (slice_get places k)

-- the effective unit of a site: of two places what the first present one holds; of a member of a row what it holds,
-- or where it is lost the exclusive or of all the others; none where that misses one too
abbrev pub unit_at : ℕ → Cells → Site → Option (List ℕ)
unit_at bytes c (Pair p q) = or_else (held c p) (held c q)
unit_at bytes c (InStripe places parity i) = or_else (row_of c places i) (others bytes (length places) (row_of c places) i)

-- a site of two copies is sound if these are equal, or one is missing; a site in a row, if the exclusive or of the row is zero
-- throughout, or a member is missing
abbrev pub IsSoundAt : ℕ → Cells → Site → Type 0
IsSoundAt bytes c (Pair p q) = (u v : List ℕ) → held c p ≡ Some u → held c q ≡ Some v → u ≡ v
IsSoundAt bytes c (InStripe places parity i) = (v : List ℕ) → xor_total bytes (length places) (row_of c places) ≡ Some v → v ≡ replicate bytes 0

-- the place of an offset of a member's extent
abbrev pub place_of : ℕ → ℕ → Member → Place
place_of segments offset m = record { drive = m.drive; address = unit_address segments m.extent offset }

-- the places at an offset of all members
abbrev pub places_of : ℕ → List Member → ℕ → List Place
places_of segments members offset = map (place_of segments offset) members

-- the place at an offset of a member, by its number; any one where there is no such member
abbrev pub place_at : ℕ → List Member → ℕ → ℕ → Place
place_at segments members k offset = slice_index_or (map (place_of segments offset) members) k (record { drive = 0; address = 0 })

-- where an index of a group lies
abbrev pub site_in : ℕ → Class → List Member → ℕ → Site
site_in segments Mirrored members i =
    let copies = copies_of (length members) i in
    Pair (place_at segments members copies.first.member copies.first.offset) (place_at segments members copies.second.member copies.second.offset)
site_in segments Parity members i =
    let at = stripe_of (length members) i in
    InStripe (places_of segments members at.offset) at.parity at.member

-- where an index of an optional group lies, if it is one of its slots
abbrev pub site_of_index : ℕ → Option Group → ℕ → Option Site
site_of_index segments None i = None
site_of_index segments (Some group) i =
    if nat_lt i (slot_count group.class (length group.members) segments) then Some (site_in segments group.class group.members i) else None

-- where a slot lies: slot number 128 g + i is index i of group g
abbrev pub site_of : Groups → ℕ → Option Site
site_of groups slot = site_of_index groups.segments (group_at groups (slot / 128)) (slot % 128)

-- the effective unit of a slot, none where it is of no group or doesn't exist
abbrev pub unit_in : ℕ → Cells → Option Site → Option (List ℕ)
unit_in bytes c None = None
unit_in bytes c (Some site) = unit_at bytes c site

abbrev pub effective_unit : ℕ → Groups → Cells → ℕ → Option (List ℕ)
effective_unit bytes groups c slot = unit_in bytes c (site_of groups slot)

-- the drives are sound: every slot's site is
abbrev pub HasSoundSites : ℕ → Groups → Cells → Type 0
HasSoundSites bytes groups c = (slot : ℕ) (site : Site) → site_of groups slot ≡ Some site → IsSoundAt bytes c site
