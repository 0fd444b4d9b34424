-- Which unit is at a position, and which position follows it.
use Rattle.std.proofs.Common.{◌≡◌, ◌<◌, ◌≤◌, ◌+◌, ◌⊎◌, inl, inr, ℕ, suc, arith, Bool, true, false, List, length, refl, sym, ◌∙◌, ap, subst}
use Rattle.std.specs.Prelude.{Option, not, slice_get, slice_index_or, Some}
use Rattle.std.proofs.lemmas.Bool.{true≢false}
use Rattle.std.proofs.lemmas.Option.{none-some, same_Some, slice_get_cases}
use Rattle.extent_groups.specs.declared.place.Place.{Place}
use Rattle.extent_groups.specs.Cells.{Cells}
use Rattle.unit_store.specs.Views.{DriveView}
use Rattle.journaled_store.specs.declared.lookup.Lookup.{Lookup}
use Rattle.journaled_store.specs.declared.position.ScrubPosition.{ScrubPosition}
use Rattle.journaled_store.specs.Picking.{IsLookedUp}
use Rattle.journaled_store.specs.declared.comparing.Compared.{Compared}
use Rattle.journaled_store.specs.Scrubbing.{HasNone, HasUnit, IsCompared, IsHeldAt, IsLastPosition, IsNextPosition, place_at_position}

-- how many units to compare a position's drive has: all of it, and none if it is lost or there is none; and the unit at the position
pub record HasUnits (drives : List DriveView) (at : ScrubPosition) (units : ℕ) (unit : List ℕ) : Type 0 where
  pub all : (v : DriveView) → slice_get drives at.drive ≡ Some v → v.lost ≡ false → length v.units ≡ units
  pub lost : (v : DriveView) → slice_get drives at.drive ≡ Some v → v.lost ≡ true → units ≡ 0
  pub past : length drives ≤ at.drive → units ≡ 0
  pub here : (v : DriveView) → slice_get drives at.drive ≡ Some v → v.lost ≡ false → at.address < units → slice_get v.units at.address ≡ Some unit

either : (b : Bool) → (b ≡ true) ⊎ (b ≡ false)
either true = inl refl
either false = inr refl

pub not_false : (b : Bool) → not b ≡ false → b ≡ true
not_false true is = refl
not_false false is = absurd (true≢false is)

below : (drives : List DriveView) (d : ℕ) (v : DriveView) → slice_get drives d ≡ Some v → d < length drives
below drives d v there = elim (slice_get_cases drives d).1 [
  | inl is ↦ is.1
  | inr none ↦ absurd (none-some v (sym none.1 ∙ there))
]

-- what a walk found of it
pub units_at : (drives : List DriveView) (lost : List Bool) (count : ℕ) (w : Lookup) (at : ScrubPosition) (units : ℕ) → IsLookedUp drives lost count w → w.drive ≡ at.drive → w.address ≡ at.address
    → (at.drive < count → slice_index_or lost at.drive true ≡ false → units ≡ w.units) → (slice_index_or lost at.drive true ≡ true → units ≡ 0) → (count ≤ at.drive → units ≡ 0)
    → HasUnits drives at units w.unit.items
units_at drives lost count w at units is drive address some gone none = record {
  all = λ v there present. (is.here v (moved v there)).many ∙ sym (some (low v there) (mark v there ∙ present));
  lost = λ v there on. gone (mark v there ∙ on);
  past = λ high. let c = is.count_is in none (omega (arith, high, c));
  here = λ v there present within.
      let n : units ≡ w.units = some (low v there) (mark v there ∙ present) in
      ap (slice_get v.units) (sym address) ∙ (is.here v (moved v there)).unit (omega (arith, within, address, n));
}
  where
    moved : (v : DriveView) → slice_get drives at.drive ≡ Some v → slice_get drives w.drive ≡ Some v
    moved v there = ap (slice_get drives) drive ∙ there

    low : (v : DriveView) → slice_get drives at.drive ≡ Some v → at.drive < count
    low v there = let b = below drives at.drive v there in let c = is.count_is in omega (arith, b, c)

    mark : (v : DriveView) → slice_get drives at.drive ≡ Some v → slice_index_or lost at.drive true ≡ v.lost
    mark v there = ap (λ d. slice_index_or lost d true) (sym drive) ∙ is.lost_is v (moved v there)

module _ (drives : List DriveView) (at : ScrubPosition) (units : ℕ) (unit : List ℕ) (has : HasUnits drives at units unit) where
  last_bound : IsLastPosition drives at → units ≤ suc at.address
  last_bound last = elim (slice_get_cases drives at.drive).1 [
    | inl is ↦ elim (either is.0.lost) [
      | inl on ↦ (let n = has.lost is.0 is.2 on in omega (arith, n))
      | inr off ↦ (let n = has.all is.0 is.2 off in let m = last is.0 is.2 off in omega (arith, n, m))
    ]
    | inr past ↦ (let n = has.past past.0 in omega (arith, n))
  ]

  pub next_at : (next : ScrubPosition) (ends : Bool)
      → (at.address + 1 < units → (next.drive ≡ at.drive) × (next.address ≡ at.address + 1) × (ends ≡ false))
      → (units ≤ at.address + 1 → at.drive + 1 < length drives → (next.drive ≡ at.drive + 1) × (next.address ≡ 0) × (ends ≡ false))
      → (units ≤ at.address + 1 → length drives ≤ at.drive + 1 → (next.drive ≡ 0) × (next.address ≡ 0) × (ends ≡ true))
      → IsNextPosition drives at next ends
  next_at next ends on over back = record {
    on = λ v there present within.
        let n = has.all v there present in
        let is = on (omega (arith, within, n)) in
        let a = is.1 in (is.0, omega (arith, a), is.2);
    over = λ last low.
        let m = last_bound last in
        let is = over (omega (arith, m)) (omega (arith, low)) in
        let d = is.0 in (omega (arith, d), is.1, is.2);
    back = λ last high.
        let m = last_bound last in
        back (omega (arith, m)) (omega (arith, high));
  }

  pub none_at : units ≤ at.address → HasNone drives at
  none_at high v there present = let n = has.all v there present in omega (arith, high, n)

  pub unit_at : at.address < units → HasUnit drives at unit
  unit_at within = elim (slice_get_cases drives at.drive).1 [
    | inl is ↦ elim (either is.0.lost) [
      | inl on ↦ (let n = has.lost is.0 is.2 on in absurd (omega (arith, n, within)))
      | inr off ↦ record { view = is.0; there = is.2; present = off; unit_is = has.here is.0 is.2 off within }
    ]
    | inr past ↦ (let n = has.past past.0 in absurd (omega (arith, n, within)))
  ]

-- the same of what a walk found
module _ (drives : List DriveView) (lost : List Bool) (count : ℕ) (w : Lookup) (at : ScrubPosition) (units : ℕ) (is : IsLookedUp drives lost count w) (place : (w.drive ≡ at.drive) × (w.address ≡ at.address))
    (all : at.drive < count → slice_index_or lost at.drive true ≡ false → units ≡ w.units) (gone : slice_index_or lost at.drive true ≡ true → units ≡ 0) (past : count ≤ at.drive → units ≡ 0) where
  found : HasUnits drives at units w.unit.items
  found = units_at drives lost count w at units is place.0 place.1 all gone past

  pub picked_next : (next : ScrubPosition) (ends : Bool)
      → (at.address + 1 < units → (next.drive ≡ at.drive) × (next.address ≡ at.address + 1) × (ends ≡ false))
      → (units ≤ at.address + 1 → at.drive + 1 < count → (next.drive ≡ at.drive + 1) × (next.address ≡ 0) × (ends ≡ false))
      → (units ≤ at.address + 1 → count ≤ at.drive + 1 → (next.drive ≡ 0) × (next.address ≡ 0) × (ends ≡ true))
      → IsNextPosition drives at next ends
  picked_next next ends on over back = next_at drives at units w.unit.items found next ends on
      (λ high low. over high (let c = is.count_is in omega (arith, low, c)))
      (λ high more. back high (let c = is.count_is in omega (arith, more, c)))

  pub picked_none : units ≤ at.address → HasNone drives at
  picked_none high = none_at drives at units w.unit.items found high

  pub picked_unit : at.address < units → HasUnit drives at w.unit.items
  picked_unit within = unit_at drives at units w.unit.items found within

  pub picked_low : at.address < units → at.drive < 16
  picked_low within =
      let unit = picked_unit within in
      let low = below drives at.drive unit.view unit.there in
      let c = is.count_is in
      let few = is.few in
      omega (arith, low, c, few)

-- what a comparison with the array's unit says
module _ (attested : Place → Type 0) (c : Cells) (drives : List DriveView) (at : ScrubPosition) (unit : List ℕ) where
  same_held : (found : Compared) → HasUnit drives at unit → IsCompared attested c (place_at_position at) unit found → found ≡ Compared.Same → IsHeldAt attested c drives at
  same_held found has is same =
      let held = subst (λ x. IsCompared attested c (place_at_position at) unit x) same is in
      record { unit = unit; array = has; vault = held.1; digest = held.0 }

  pub found_held : (found : Compared) → HasUnit drives at unit → IsCompared attested c (place_at_position at) unit found → ◌≡◌ {A = Option Compared} (Some found) (Some Compared.Same) → IsHeldAt attested c drives at
  found_held found has is same = same_held found has is (same_Some found Compared.Same same)

  pub found_waits : (found : Compared) → IsCompared attested c (place_at_position at) unit found → ◌≡◌ {A = Option Compared} (Some found) (Some Compared.Waits) → attested (place_at_position at)
  found_waits found is same = subst (λ x. IsCompared attested c (place_at_position at) unit x) (same_Some found Compared.Waits same) is
