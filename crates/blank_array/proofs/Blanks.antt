-- An array whose drives hold zeros represents a state in which nothing was written.
use Rattle.std.proofs.Common.{◌≡◌, inl, inr, ℕ, zero, suc, ◌+◌, ◌-◌, ◌/◌, ◌%◌, ◌^◌, ◌<◌, Bool, true, false, if◌then◌else◌, nat_lt, Option, Some, None, List, [], length, replicate, Contains, refl, sym, ap, ◌∙◌, subst, arith}
use Rattle.std.specs.Prelude.{slice_get, slice_index}
use Rattle.std.proofs.lemmas.Bool.{true≢false}
use Rattle.std.proofs.lemmas.Bool.Decides.{nat_tests}
use Rattle.std.proofs.lemmas.List.{length-replicate, take-replicate, drop-replicate}
use Rattle.std.proofs.lemmas.Option.{none-some, same_Some, slice_get_cases, slice_get_within}
use Rattle.map_join.specs.declared.records.Record.{Record}
use Rattle.map_join.specs.Record.{record_at}
use Rattle.extents.specs.Failures.{no_failures}
use Rattle.extents.specs.Header.{record_in}
use Rattle.extents.specs.declared.header.Header.TheVariants.{Blank}
use Rattle.extent_groups.specs.declared.class.Class.{Class}
use Rattle.extent_groups.specs.declared.class.Class.TheVariants.{Mirrored}
use Rattle.extent_groups.specs.Cells.{Cells, cell}
use Rattle.extent_groups.specs.Groups.{Groups, group_at}
use Rattle.extent_groups.specs.Geometry.{slot_count}
use Rattle.extent_groups.specs.Stores.{unit_bytes}
use Rattle.extent_groups.specs.Units.{Site, site_of, unit_at, unit_in, IsSoundAt}
use Rattle.extent_groups.proofs.Blank.{blank_site}
use Rattle.extent_groups.proofs.LayoutLaw.{slot_of}
use Rattle.flat_machine.specs.Flat.{Flat, Stored}
use Rattle.flat_machine.specs.Groups.{class_at, class_below}
use Rattle.flat_machine.specs.History.{IsHistory, UnitMatches}
use Rattle.unit_store.specs.Shows.{IsUnit, ShowsUnits}
use Rattle.unit_store.specs.Views.{DriveView, PartsView, drive_units, drive_lost, drive_cells, lost_of, failed_of}
use Rattle.slot_tables.specs.Represents.{Represents, ShowsArray}
use Rattle.slot_tables.specs.Views.{ArrayView, WorldView, key_at}
use Rattle.migrator.specs.Ages.{by_number}
use Rattle.migrator.specs.Slots.{IsMirrored, at_start, class_of_record}
use Rattle.tiered_array.specs.Hints.{IsHinted}
use Rattle.tiered_array.specs.Marking.{AreMarked}
use Rattle.tiered_array.specs.Matches.{RepresentsTiers}
use Rattle.tiered_array.specs.Tiered.{begun}
use Rattle.tiered_array.specs.Views.{TiersView}
use Rattle.tiered_array.specs.declared.planner.Planner.{Planner}
use Rattle.tiered_array.proofs.Marks.{none_marked}
use Rattle.tiered_array.proofs.Standing.{begins}
use Rattle.tiered_array.proofs.Words.{full}
use Rattle.array_store.specs.Blocks.{Holds}
use Rattle.vault.specs.Images.{is_lost}
use Rattle.journaled_store.specs.Left.{HasBoth, IsLeftOf, IsLostIn}
use Rattle.journaled_store.specs.Steps.{loss_mark}
use Rattle.blank_array.specs.Blank.{CanBeMade, IsBlankArray, unit_count, zeros_shown}

-- each of several copies is the same
of_copies : {X : Type 0} (n : ℕ) (x : X) (i : ℕ) (y : X) → slice_get (replicate n x) i ≡ Some y → y ≡ x
of_copies zero x i y e = absurd (none-some y e)
of_copies (suc n) x zero y e = sym (same_Some x y e)
of_copies (suc n) x (suc i) y e = of_copies n x i y e

-- one of several copies, where there is one
copy_there : {X : Type 0} (n : ℕ) (x : X) (i : ℕ) → i < n → slice_get (replicate n x) i ≡ Some x
copy_there zero x i low = absurd (omega (arith, low))
copy_there (suc n) x zero low = refl
copy_there (suc n) x (suc i) low = copy_there n x i (omega (arith, low))

-- a list of zeros has 0 everywhere
zero_there : (n i : ℕ) → slice_index (replicate n 0) i ≡ 0
zero_there zero i = refl
zero_there (suc n) zero = refl
zero_there (suc n) (suc i) = zero_there n i

below_is : (a b : ℕ) → a < b → nat_lt a b ≡ true
below_is a b low = grind (arith, nat_tests)

-- a unit of zeros, and that of a slot of this class
abbrev blank_unit : ℕ → Stored
blank_unit payload = record { header = Blank; payload = replicate payload 0 }

abbrev blank_of : ℕ → Option Class → Option Stored
blank_of payload None = None
blank_of payload (Some class) = Some (blank_unit payload)

-- the bytes of such a unit
spelled : (payload : ℕ) → IsUnit (replicate (32 + payload) 0) (blank_unit payload)
spelled payload =
    let left : 32 + payload - 32 ≡ payload = omega arith in
    (take-replicate 32 (32 + payload) 0 (omega arith), drop-replicate 32 (32 + payload) 0 ∙ ap (λ n. replicate n 0) left)

-- its header has no record
no_record : (payload : ℕ) (u : Stored) (r : Record) → Some (blank_unit payload) ≡ Some u → record_in u.header ≡ Some r → ⊥
no_record payload u r e has = none-some r (ap (λ (x : Stored). record_in x.header) (same_Some (blank_unit payload) u e) ∙ has)

blank_matches : (payload s : ℕ) (class : Option Class) → UnitMatches payload [] [] (λ _. 0) s class None (blank_of payload class)
blank_matches payload s None = record {
  there = refl;
  sized = λ u e. absurd (none-some u e);
  header = λ u r e. absurd (none-some u e);
  content = λ u r w e. absurd (none-some u e);
  blank = λ c e. absurd (none-some c e);
  rests = λ c e. absurd (none-some c e);
}
blank_matches payload s (Some class) = record {
  there = refl;
  sized = λ u e. ap (λ (x : Stored). length x.payload) (sym (same_Some (blank_unit payload) u e)) ∙ length-replicate payload 0;
  header = λ u r e has. absurd (no_record payload u r e has);
  content = λ u r w e has. absurd (no_record payload u r e has);
  blank = λ c e. absurd (none-some c e);
  rests = λ c e. absurd (none-some c e);
}

no_element : {X : Type 0} (x : X) → Contains [] x → ⊥
no_element x has = let h = has.1 in omega arith

module _ (groups : Groups) (drives : ℕ) (can : CanBeMade groups drives) where
  abbrev zeros : List ℕ
  zeros = replicate (unit_bytes groups) 0

  abbrev drive : DriveView
  drive = record { units = replicate (unit_count groups) zeros; lost = false; failures = no_failures }

  abbrev parts : PartsView
  parts = record { groups = groups; owners = record { extents = groups.extents; rows = [] }; drives = replicate drives drive }

  abbrev array : ArrayView
  array = record { parts = parts; log = []; keys = []; kept = [] }

  abbrev world : WorldView
  world = record { array = array; hands = [] }

  abbrev flat : Flat
  flat = record {
    groups = groups;
    drives = drives;
    lost = lost_of parts;
    failures = failed_of parts;
    writes = [];
    emitted = [];
    held = λ _ _. false;
    tickets = λ _. None;
    units = λ s. blank_of groups.payload (class_at groups s);
  }

  no_key : (b : ℕ) → key_at array b ≡ 0
  no_key b = refl

  history : IsHistory flat (λ _. 0)
  history = record {
    limits = record { sizes = can.sizes; least = can.least; most = can.most; log = omega arith };
    groups = can.stands;
    records = λ r has. absurd (no_element r has);
    blocks = λ r has. absurd (no_element r has);
    chain = tt;
    map = record { reported = λ b some. absurd (omega arith); most = λ r has. absurd (no_element r has) };
    writes = λ w has. absurd (no_element w has);
    versions = tt;
    holders = λ s. record {
      once = λ j k of_j of_k hj. absurd (cc);
      inside = λ k of hk. absurd (cc);
      waits = λ c e. absurd (cc);
      waiting = λ w hw. absurd (cc);
      block = λ b hb. absurd (cc);
      shut = λ g hg. absurd (cc);
    };
    units = λ s. blank_matches groups.payload s (class_at groups s);
    written = λ b. (λ none. refl, λ some. absurd (omega arith));
  }

  -- what a drive holds is zeros
  cell_zeros : (o : Option DriveView) (at : ℕ) (u : List ℕ) → ((v : DriveView) → o ≡ Some v → v ≡ drive) → cell drive_units drive_lost o at ≡ Some u → u ≡ zeros
  cell_zeros None at u is e = absurd (none-some u e)
  cell_zeros (Some v) at u is e =
      of_copies (unit_count groups) zeros at u (subst (λ (w : DriveView). cell drive_units drive_lost (Some w) at ≡ Some u) (is v refl) e)

  held_zeros : (d at : ℕ) (u : List ℕ) → drive_cells parts d at ≡ Some u → u ≡ zeros
  held_zeros d at u e = cell_zeros (slice_get (replicate drives drive) d) at u (λ v there. of_copies drives drive d v there) e

  blank_at : (site : Site) → IsSoundAt (unit_bytes groups) (drive_cells parts) site × ((v : List ℕ) → unit_at (unit_bytes groups) (drive_cells parts) site ≡ Some v → v ≡ zeros)
  blank_at site = blank_site (unit_bytes groups) (drive_cells parts) site (λ p of u e. held_zeros p.drive p.address u e)

  -- a slot with a site has a class
  classed : (slot : ℕ) (site : Site) → site_of groups slot ≡ Some site → (class : Class) × (class_at groups slot ≡ Some class)
  classed slot site at =
      let is = slot_of groups.segments (group_at groups (slot / 128)) (slot % 128) site at in (
        is.group.class,
        ap (λ o. class_below groups.segments o (slot % 128)) is.made
            ∙ ap (λ b. if b then Some is.group.class else None) (below_is (slot % 128) (slot_count is.group.class (length is.group.members) groups.segments) is.below),
      )

  shown_at : (slot : ℕ) (bytes : List ℕ) (o : Option Site) → site_of groups slot ≡ o → unit_in (unit_bytes groups) (drive_cells parts) o ≡ Some bytes
      → (u : Stored) × (blank_of groups.payload (class_at groups slot) ≡ Some u) × IsUnit bytes u
  shown_at slot bytes None at e = absurd (none-some bytes e)
  shown_at slot bytes (Some site) at e = (
    blank_unit groups.payload,
    ap (blank_of groups.payload) (classed slot site at).1,
    subst (λ b. IsUnit b (blank_unit groups.payload)) (sym ((blank_at site).1 bytes e)) (spelled groups.payload),
  )

  units : ShowsUnits groups (drive_cells parts) flat.units
  units = record {
    sound = λ slot site at. (blank_at site).0;
    shown = λ slot bytes e. shown_at slot bytes (site_of groups slot) refl e;
  }

  shows : ShowsArray array flat
  shows = record {
    history = subst (IsHistory flat) (sym keys_are) history;
    units = units;
    tables = record {
      groups = refl;
      drives = sym (length-replicate drives drive);
      lost = refl;
      failures = refl;
      log = refl;
      slots = λ s. record { blocks = λ b. refl; shut = λ g. refl; waits = refl };
    };
  }
    where
      keys_are : key_at array ≡ (λ _. 0)
      keys_are = λ i b. no_key b i

  represents : Represents world flat
  represents = record {
    array = shows;
    held = record { once = λ s j k hj hk. absurd (cc); inside = λ s k h. absurd (cc) };
    hands = λ s. record { claims = λ w. refl; tickets = λ w. refl };
  }

  unmarked : AreMarked (replicate groups.blocks false) groups (key_at array)
  unmarked b = (λ is. absurd (none_marked (replicate groups.blocks false) groups.blocks b refl is), λ is. absurd (not_mirrored is))
    where
      not_mirrored : IsMirrored groups (key_at array) b → ⊥
      not_mirrored is = none-some Mirrored (ap (λ k. class_of_record groups (record_at b k)) (sym (no_key b)) ∙ is)

  abbrev planner : Planner
  planner = record { ages = record { order = by_number groups.blocks; marks = replicate groups.blocks false }; end = at_start }

  -- each slot may be free
  module _ (words : List ℕ) (all : words ≡ replicate 1024 (2 ^ 64 - 1)) where
    abbrev tiers : TiersView
    tiers = record { world = world; planner = planner; hints = words; holes = words }

    hinted : (s : ℕ) → s < 65536 → IsHinted words s
    hinted s low = full words 1024 s all low

    matches : RepresentsTiers tiers (begun flat)
    matches = begins world flat planner words words refl (length-replicate groups.blocks false) unmarked refl hinted hinted represents

    holds : (size : ℕ) → Holds tiers (replicate size 0)
    holds size = record {
      state = begun flat;
      matches = matches;
      shows = record { each = λ i low. zero_there size i ∙ sym (zero_there groups.payload (i % groups.payload)) };
    }

    none_lost : (d : ℕ) → IsLostIn (replicate drives drive) d → ⊥
    none_lost d is = true≢false (sym is.2 ∙ ap (λ (v : DriveView). v.lost) (of_copies drives drive d is.0 is.1))

    module _ (absent : List Bool) (c : Cells) (is : IsBlankArray groups drives absent c) where
      -- a drive's units lie at its places
      has : (d at : ℕ) (v : DriveView) → slice_get (replicate drives drive) d ≡ Some v → is_lost absent d ≡ false → c d at ≡ slice_get v.units at
      has d at v e here = (elim (slice_get_cases (replicate (unit_count groups) zeros) at).1 [
        | inl some ↦
            (let inside = some.1 in
            is.units.each d at low here (omega (arith, inside, long)) ∙ sym (some.2 ∙ ap (λ u. Some u) (of_copies (unit_count groups) zeros at some.0 some.2)))
        | inr past ↦ (let high = past.0 in is.units.ends d at low here (omega (arith, high, long)) ∙ sym past.1)
      ]) ∙ sym (ap (λ (w : DriveView). slice_get w.units at) (of_copies drives drive d v e))
        where
          long : length (replicate (unit_count groups) zeros) ≡ unit_count groups
          long = length-replicate (unit_count groups) zeros

          low : d < drives
          low = let within = slice_get_within (replicate drives drive) d v e in let many = length-replicate drives drive in omega (arith, within, many)

      marked : (d : ℕ) (v : DriveView) → slice_get (replicate drives drive) d ≡ Some v → slice_get (replicate 16 0) d ≡ Some (loss_mark v.lost)
      marked d v e =
          let within = slice_get_within (replicate drives drive) d v e in
          let many = length-replicate drives drive in
          let most = can.most in
          copy_there 16 0 d (omega (arith, within, many, most)) ∙ ap (λ (w : DriveView). Some (loss_mark w.lost)) (sym (of_copies drives drive d v e))

      pub blank_left : (size : ℕ) → IsLeftOf HasBoth (zeros_shown size) groups drives absent c
      blank_left size = record {
        tiers = tiers;
        shown = record { holds = holds size; keys_are = λ block. refl };
        groups_are = refl;
        many = length-replicate drives drive;
        table = is.form;
        one = λ d e lost other. absurd (none_lost d lost);
        lost = absent;
        kept = record { has = record { each = has }; marks = replicate 16 0; noted = is.marks; reported = record { each = marked } };
        excused = λ d low gone. inl gone;
      }

-- units that are blank are those of an array that shows zeros
pub shows_zeros : (groups : Groups) (drives size : ℕ) (absent : List Bool) (c : Cells) → CanBeMade groups drives → IsBlankArray groups drives absent c
    → IsLeftOf HasBoth (zeros_shown size) groups drives absent c
shows_zeros groups drives size absent c can is = blank_left groups drives can (replicate 1024 (2 ^ 64 - 1)) refl absent c is size
