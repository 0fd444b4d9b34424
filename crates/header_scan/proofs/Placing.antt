-- The newest records have their places: each in a slot of a group, and no two in one slot.
use Rattle.std.proofs.Common.{List, ◌≡◌, ◌≢◌, ℕ, ◌+◌, ◌*◌, ◌/◌, ◌%◌, ◌^◌, ◌<◌, ◌≤◌, ◌⊎◌, inl, inr, max, Bool, true, false, cond, Option, Some, None, length, refl, sym, ◌∙◌, ap, subst, arith, nat_lt, if◌then◌else◌}
use Rattle.std.specs.Prelude.{◌==◌}
use Rattle.std.proofs.lemmas.Bool.Decides.{nat_tests}
use Rattle.std.proofs.lemmas.Bool.{cases_order}
use Rattle.std.proofs.lemmas.Option.{none-some}
use Rattle.map_join.specs.declared.records.Record.{Record}
use Rattle.map_join.specs.Record.{key_of, stamp_of}
use Rattle.map_join.specs.Maps.{Entries, at, IsSame, join, only}
use Rattle.extent_groups.specs.Geometry.{slot_count}
use Rattle.extent_groups.specs.Groups.{Group, Groups, group_at, slots_in}
use Rattle.flat_machine.specs.Groups.{class_below, class_at}
use Rattle.unit_store.specs.Slots.{IsSlot}
use Rattle.header_scan.specs.Faults.{IsFine}
use Rattle.header_scan.specs.Found.{key_in, place_in, stamp_at, ArePlaced}
use Rattle.header_scan.proofs.Stepping.{IsNote}

-- a slot of a group has a class
class_there : (segments : ℕ) (o : Option Group) (i : ℕ) → i < slots_in segments o → class_below segments o i ≢ None
class_there segments None i inside e = omega (arith, inside)
class_there segments (Some group) i inside e = none-some group.class (sym e ∙ ap (λ b. cond b (Some group.class) None) below)
  where
    below : nat_lt i (slot_count group.class (length group.members) segments) ≡ true
    below = grind (arith, nat_tests)

pub classed : (groups : Groups) (slot : ℕ) → IsSlot groups slot → class_at groups slot ≢ None
classed groups slot is = class_there groups.segments (group_at groups (slot / 128)) (slot % 128) is

-- a map without keys
pub none_placed : (groups : Groups) (bound : ℕ) (M : ℕ → ℕ) → ((b : ℕ) → M b ≡ 0) → ArePlaced groups bound M
none_placed groups bound M none = record {
  places = record {
    blocks = λ b some. absurd (nothing b some);
    slots = λ b some. absurd (nothing b some);
    apart = λ b c some also same. absurd (nothing b some);
  };
  below = λ b some. absurd (nothing b some);
}
  where
    nothing : (b : ℕ) → 0 < M b → ⊥
    nothing b some = let e = none b in omega (arith, e, some)

-- what is below a slot is below any later one
pub placed_below : (groups : Groups) (low high : ℕ) (M : ℕ → ℕ) → low ≤ high → ArePlaced groups low M → ArePlaced groups high M
placed_below groups low high M up was = record {
  places = was.places;
  below = λ b some. let under = was.below b some in omega (arith, under, up);
}

-- what a group's slots add
pub placed_after : (groups before : Groups) (g : ℕ) (M N : ℕ → ℕ) → before ≡ groups → (ArePlaced before (128 * g) M → ArePlaced before (128 * g + 128) N)
    → ArePlaced groups (128 * g) M → ArePlaced groups (128 * (g + 1)) N
placed_after groups before g M N same more was =
    let next : 128 * g + 128 ≡ 128 * (g + 1) = omega arith in
    subst (λ n. ArePlaced groups n N) next (subst (λ x. ArePlaced x (128 * g) M → ArePlaced x (128 * g + 128) N) same more was)

-- a join with one record has what the map has, or that record
one_of_two : (n a b : ℕ) → n ≡ max a b → (n ≡ a) ⊎ (n ≡ b)
one_of_two n a b is = grind (arith, nat_tests)

of_key : (t : Bool) (key n : ℕ) → n ≡ (if t then key else 0) → 0 < n → (t ≡ true) × (n ≡ key)
of_key true key n is some = (refl, is)
of_key false key n is some = absurd (omega (arith, is, some))

is_equal : (a b : ℕ) → (a == b) ≡ true → a ≡ b
is_equal a b e = grind (arith, nat_tests)

module _ (groups : Groups) (s : ℕ) (r : Record) (M N : ℕ → ℕ) (slot : IsSlot groups s) (small : s < 2 ^ 16) (fine : IsFine groups.blocks s (Some r)) (same : IsSame N (join M (only r))) (was : ArePlaced groups s M) where
  -- a record of the map is one that it had, or the new one
  abbrev IsOld : ℕ → Type 0
  IsOld b = (0 < M b) × (M b ≡ N b)

  abbrev IsNew : ℕ → Type 0
  IsNew b = (b ≡ r.block) × (place_in (N b) ≡ s)

  either : (b : ℕ) → 0 < N b → IsOld b ⊎ IsNew b
  either b some = elim (one_of_two (N b) (M b) (only r b) (same b)) [
    | inl old ↦ inl ((omega (arith, old, some)), sym old)
    | inr new ↦
        (let is = of_key (b == r.block) (key_of r) (N b) new some in
        let key = is.1 in
        let place = fine.1 in
        inr (is_equal b r.block is.0, omega (arith, key, place, small)))
  ]

  blocks : (b : ℕ) → 0 < N b → b < groups.blocks
  blocks b some = elim (either b some) [
    | inl old ↦ was.places.blocks b old.0
    | inr new ↦ (let is = new.0 in let inside = fine.0 in omega (arith, is, inside))
  ]

  slots : (b : ℕ) → 0 < N b → class_at groups (place_in (N b)) ≢ None
  slots b some = elim (either b some) [
    | inl old ↦ subst (λ key. class_at groups (place_in key) ≢ None) old.1 (was.places.slots b old.0)
    | inr new ↦ subst (λ place. class_at groups place ≢ None) (sym new.1) (classed groups s slot)
  ]

  old_below : (b : ℕ) → IsOld b → place_in (N b) < s
  old_below b old = subst (λ key. place_in key < s) old.1 (was.below b old.0)

  below : (b : ℕ) → 0 < N b → place_in (N b) < s + 1
  below b some = elim (either b some) [
    | inl old ↦ (let under = old_below b old in omega (arith, under))
    | inr new ↦ (let is = new.1 in omega (arith, is))
  ]

  apart : (b c : ℕ) → 0 < N b → 0 < N c → place_in (N b) ≡ place_in (N c) → b ≡ c
  apart b c some also equal = elim (either b some) [
    | inl old ↦ elim (either c also) [
      | inl too ↦ was.places.apart b c old.0 too.0 (ap place_in old.1 ∙ equal ∙ ap place_in (sym too.1))
      | inr new ↦ absurd (let under = old_below b old in let is = new.1 in omega (arith, under, is, equal))
    ]
    | inr new ↦ elim (either c also) [
      | inl old ↦ absurd (let under = old_below c old in let is = new.1 in omega (arith, under, is, equal))
      | inr too ↦ new.0 ∙ sym too.0
    ]
  ]

  pub placed_more : ArePlaced groups (s + 1) N
  placed_more = record { places = record { blocks = blocks; slots = slots; apart = apart }; below = below }

-- a note of a record joins it to the newest, or leaves them
newest_after : (M : List ℕ) (T : Entries) (N : List ℕ) (U : Entries) (r : Record) → IsNote M T N U r → IsSame (key_in N) (join (key_in M) (only r)) ⊎ (N ≡ M)
newest_after M T N U r note = elim (cases_order (stamp_of r) (stamp_at (key_in M) r.block)) [
  | inl e ↦ elim (cases_order (stamp_of r) (stamp_at (at T) r.block)) [
    | inl f ↦ inr (note.third (sym e) (omega (arith, f))).0
    | inr o ↦ elim o [ inl less ↦ inr (note.third (sym e) (omega (arith, less))).0 | inr more ↦ inr (note.twin (sym e) more).0 ]
  ]
  | inr o ↦ elim o [ inl less ↦ inr (note.older less).0 | inr more ↦ inl (note.newer more).0 ]
]

-- a slot more, whose record is noted
pub noted_placed : (groups : Groups) (s : ℕ) (r : Record) (M : List ℕ) (T : Entries) (N : List ℕ) (U : Entries) → IsSlot groups s → s < 2 ^ 16 → IsFine groups.blocks s (Some r) → IsNote M T N U r
    → ArePlaced groups s (key_in M) → ArePlaced groups (s + 1) (key_in N)
noted_placed groups s r M T N U slot small fine note was = elim (newest_after M T N U r note) [
  | inl same ↦ placed_more groups s r (key_in M) (key_in N) slot small fine same was
  | inr e ↦ subst (λ (x : List ℕ). ArePlaced groups (s + 1) (key_in x)) (sym e) (placed_below groups s (s + 1) (key_in M) (omega arith) was)
]
