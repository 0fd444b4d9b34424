-- What drives show of the flat state's units, after losses, writes and a group that is made.
use Rattle.std.proofs.Common.{◌≡◌, ◌≢◌, ℕ, ◌+◌, ◌-◌, ◌/◌, ◌%◌, ◌<◌, inl, inr, true, false, Option, Some, None, List, ◌++◌, length, take, refl, sym, ◌∙◌, ap, subst, arith, eq-eqb, nat_lt, if◌then◌else◌}
use Rattle.std.specs.Prelude.{◌==◌, ◌&&◌, replicate}
use Rattle.std.proofs.lemmas.Bool.Decides.{nat_tests}
use Rattle.std.proofs.lemmas.List.{take-replicate, drop-replicate, take_at, drop_at}
use Rattle.std.proofs.lemmas.Option.{same_Some, none-some}
use Rattle.extents.specs.declared.header.Header.{Header}
use Rattle.extents.specs.declared.header.Header.TheVariants.{Blank}
use Rattle.extents.specs.Header.{Spells, header_bytes, IsHeader}
use Rattle.extents.proofs.Headers.{spelled_length, header_spelled, one_header}
use Rattle.extent_groups.specs.Geometry.{slot_count}
use Rattle.extent_groups.specs.Groups.{Group, Groups, group_at, with_group}
use Rattle.extent_groups.specs.Cells.{Cells}
use Rattle.extent_groups.specs.Units.{Site, site_of, site_of_index, unit_in}
use Rattle.extent_groups.specs.Stores.{unit_bytes, unit_of, AreSound, KeepsUnits, WroteSlot}
use Rattle.extent_groups.proofs.GroupsLemmas.{group_same}
use Rattle.extent_groups.proofs.LayoutLaw.{slot_of}
use Rattle.extent_groups.proofs.Places.{same_or_not}
use Rattle.flat_machine.specs.Flat.{Stored, put}
use Rattle.flat_machine.specs.Cases.{wiped}
use Rattle.unit_store.specs.Shows.{IsUnit, ShowsUnits}

not_equal : (a b : ℕ) → a ≢ b → (a == b) ≡ false
not_equal a b ne = grind (arith, nat_tests)

below_is : (a b : ℕ) → a < b → nat_lt a b ≡ true
below_is a b h = grind (arith, nat_tests)

-- a read, or a loss from outside: the units that still exist are what they were
pub shows_kept : (t : Groups) (c new : Cells) (units : ℕ → Option Stored) → ShowsUnits t c units → KeepsUnits t c new → AreSound t new → ShowsUnits t new units
shows_kept t c new units shows keeps sound = record { sound = sound; shown = λ slot bytes e. shows.shown slot bytes (keeps slot bytes e) }

-- a write of a slot with the bytes of a unit
pub shows_wrote : (t : Groups) (c new : Cells) (units : ℕ → Option Stored) (slot : ℕ) (bytes : List ℕ) (u : Stored) → ShowsUnits t c units → WroteSlot t c new slot bytes → IsUnit bytes u
    → ShowsUnits t new (put units slot (Some u))
shows_wrote t c new units slot bytes u shows wrote is = record {
  sound = wrote.sound shows.sound;
  shown = λ other v e. elim (same_or_not other slot) [
    | inl q ↦ (
      u,
      ap (λ b. if b then Some u else units other) (eq-eqb other slot q),
      subst (λ w. IsUnit w u) (sym (wrote.unit v (subst (λ s. unit_of t new s ≡ Some v) q e))) is,
    )
    | inr ne ↦
        (let was = shows.shown other v (wrote.others shows.sound other v ne e) in
        (was.0, ap (λ b. if b then Some u else units other) (not_equal other slot ne) ∙ was.1, was.2))
  ];
}

-- bytes that are zero are those of a blank unit
pub zero_unit : (payload : ℕ) → IsUnit (replicate (32 + payload) 0) (record { header = Blank; payload = replicate payload 0 })
zero_unit payload =
    let left : 32 + payload - 32 ≡ payload = omega arith in
    (take-replicate 32 (32 + payload) 0 (omega arith), drop-replicate 32 (32 + payload) 0 ∙ ap (λ n. replicate n 0) left)

-- a slot that has a unit is one of its group's
slot_below : (t : Groups) (g : ℕ) (group : Group) (c : Cells) (slot : ℕ) (v : List ℕ) (o : Option Site) → g < length t.table → slot / 128 ≡ g → site_of (with_group t g (Some group)) slot ≡ o
    → unit_in (unit_bytes t) c o ≡ Some v → slot % 128 < slot_count group.class (length group.members) t.segments
slot_below t g group c slot v None within q at e = absurd (none-some v e)
slot_below t g group c slot v (Some site) within q at e =
    let is = slot_of t.segments (group_at (with_group t g (Some group)) (slot / 128)) (slot % 128) site at in
    let same : is.group ≡ group = same_Some _ _ (sym is.made ∙ ap (group_at (with_group t g (Some group))) q ∙ group_same t g (Some group) within) in
    subst (λ (x : Group). slot % 128 < slot_count x.class (length x.members) t.segments) same is.below

-- a group is made of extents that were wiped: its slots are blank
pub shows_made : (t : Groups) (g : ℕ) (group : Group) (c new : Cells) (units : ℕ → Option Stored) (zeros : List ℕ) → g < length t.table → zeros ≡ replicate (unit_bytes t) 0 → ShowsUnits t c units
    → AreSound (with_group t g (Some group)) new
    → ((slot : ℕ) (v : List ℕ) → slot / 128 ≢ g → unit_of (with_group t g (Some group)) new slot ≡ Some v → unit_of t c slot ≡ Some v)
    → ((slot : ℕ) (v : List ℕ) → slot / 128 ≡ g → unit_of (with_group t g (Some group)) new slot ≡ Some v → v ≡ zeros)
    → ShowsUnits (with_group t g (Some group)) new (wiped units t.payload g (slot_count group.class (length group.members) t.segments))
shows_made t g group c new units zeros within zero shows sound others blank =
    let count : ℕ = slot_count group.class (length group.members) t.segments in
    let fresh : Stored = record { header = Blank; payload = replicate t.payload 0 } in
    record {
      sound = sound;
      shown = λ slot v e. elim (same_or_not (slot / 128) g) [
        | inl q ↦ (
          fresh,
          ap (λ b. if b && nat_lt (slot % 128) count then Some fresh else units slot) (eq-eqb (slot / 128) g q)
              ∙ ap (λ b. if b then Some fresh else units slot) (below_is (slot % 128) count (slot_below t g group new slot v (site_of (with_group t g (Some group)) slot) within q refl e)),
          subst (λ w. IsUnit w fresh) (sym (blank slot v q e ∙ zero)) (zero_unit t.payload),
        )
        | inr ne ↦
            (let was = shows.shown slot v (others slot v ne e) in
            (was.0, ap (λ b. if b && nat_lt (slot % 128) count then Some fresh else units slot) (not_equal (slot / 128) g ne) ∙ was.1, was.2))
      ];
    }

-- drives of an array without groups show any units
pub shows_none : (t : Groups) (c : Cells) (units : ℕ → Option Stored) → ((g : ℕ) → group_at t g ≡ None) → ShowsUnits t c units
shows_none t c units free =
    let nowhere : (slot : ℕ) → site_of t slot ≡ None = λ slot. ap (λ o. site_of_index t.segments o (slot % 128)) (free (slot / 128)) in
    record {
      sound = λ slot site at. absurd (none-some site (sym (nowhere slot) ∙ at));
      shown = λ slot bytes e. absurd (none-some bytes (sym (ap (unit_in (unit_bytes t) c) (nowhere slot)) ∙ e));
    }

-- bytes that spell a header, followed by a payload, are those of a unit
pub unit_of_bytes : (bytes payload : List ℕ) (h : Header) → Spells bytes h → IsUnit (bytes ++ payload) (record { header = h; payload = payload })
unit_of_bytes bytes payload h reported =
    let whole = spelled_length bytes h reported in
    (subst (λ b. Spells b h) (sym (take_at bytes payload 32 whole)) reported, drop_at bytes payload 32 whole)

-- and so are those of a header that was written
pub unit_of_header : (h : Header) (payload : List ℕ) → IsHeader h → IsUnit (header_bytes h ++ payload) (record { header = h; payload = payload })
unit_of_header h payload is = unit_of_bytes (header_bytes h) payload h (header_spelled h is)

-- the header that is spelled is the unit's
pub shown_header : (bytes : List ℕ) (u : Stored) (h : Header) → IsUnit bytes u → Spells (take 32 bytes) h → u.header ≡ h
shown_header bytes u h is reported = one_header (take 32 bytes) u.header h is.0 reported
