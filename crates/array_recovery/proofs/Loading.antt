-- Units of drives in memory, of which one is written.
use Rattle.std.proofs.Common.{◌≡◌, ◌≢◌, ◌<◌, ◌⊎◌, inl, inr, ℕ, Bool, false, Some, List, ◌++◌, length, take, drop, slice_get, slice_set, sym, ◌∙◌, ap, subst, arith}
use Rattle.std.proofs.lemmas.Option.{slice_get_within, slice_get_cases}
use Rattle.std.proofs.lemmas.List.{length-set}
use Rattle.std.proofs.Math.Seq.{take-append_seam}
use Rattle.extents.specs.Condition.{Held}
use Rattle.extents.specs.Units.{AreUnitsSized}
use Rattle.extents.specs.declared.mem_drive.Condition.TheVariants.{Present}
use Rattle.extent_groups.specs.declared.place.Place.{Place}
use Rattle.extent_groups.specs.Cells.{Cells}
use Rattle.extent_groups.specs.Planned.{with_unit}
use Rattle.extent_groups.proofs.Places.{same_or_not, get-set_same, get-set_other}
use Rattle.vault.specs.Images.{is_lost}
use Rattle.rotten_units.proofs.Loading.{get_set, sized_set}
use Rattle.array_recovery.specs.Found.{AreFormed, HaveUnits}
use Rattle.array_recovery.proofs.Replaying.{write, write_here, write_else}

-- what is lent as a slice comes back
pub written_back : {A : Type 0} (len : ℕ) (new items : List A) → length new ≡ length items → len ≡ length items → take len (new ++ drop (length new) items) ≡ new
written_back len new items same is = ap (λ n. take n (new ++ drop (length new) items)) (is ∙ sym same) ∙ take-append_seam new (drop (length new) items)

-- a unit of a drive is written
module _ (count size : ℕ) (caches : List Held) (formed : AreFormed count size caches) (number address : ℕ) (was now : Held) (unit : List ℕ)
    (is : slice_get caches number ≡ Some was) (inside : address < length was.units) (long : length unit ≡ size) (present : now.condition ≡ Present)
    (written : now.units ≡ slice_set was.units address unit) where
  within : number < length caches
  within = slice_get_within caches number was is

  pub formed_set : AreFormed count size (slice_set caches number now)
  formed_set = record {
    present = λ d x e. elim (get_set caches number now d x within e) [ inl here ↦ subst (λ (h : Held). h.condition ≡ Present) here.1 present | inr other ↦ formed.present d x other.1 ];
    many = λ d x e. elim (get_set caches number now d x within e) [
      | inl here ↦ subst (λ (h : Held). length h.units ≡ count) here.1 (ap length written ∙ length-set was.units address unit ∙ formed.many number was is)
      | inr other ↦ formed.many d x other.1
    ];
    sized = λ d x e. elim (get_set caches number now d x within e) [
      | inl here ↦
          subst (λ (h : Held). AreUnitsSized size h.units) here.1
          (subst (λ (u : List (List ℕ)). AreUnitsSized size u) (sym written) (sized_set size was.units address unit inside (formed.sized number was is) long))
      | inr other ↦ formed.sized d x other.1
    ];
  }

  pub units_set : (lost : List Bool) (c : Cells) → is_lost lost number ≡ false → HaveUnits lost c caches
      → HaveUnits lost (with_unit c (write (record { drive = number; address = address }) unit)) (slice_set caches number now)
  units_set lost c alive have = record {
    each = λ d at x e not low. elim (get_set caches number now d x within e) [
      | inl here ↦
          subst (λ (h : Held). with_unit c (write place unit) d at ≡ slice_get h.units at) here.1
          (subst (λ (u : List (List ℕ)). with_unit c (write place unit) d at ≡ slice_get u at) (sym written)
          (own d at here.0 (subst (λ (h : Held). at < length h.units) (sym here.1) low)))
      | inr other ↦ write_else c place unit d at (inl other.0) ∙ have.each d at x other.1 not low
    ];
  }
    where
      place : Place
      place = record { drive = number; address = address }

      old : (at : ℕ) → at < length was.units → c number at ≡ slice_get was.units at
      old at low = have.each number at was is alive low

      own : (d at : ℕ) → d ≡ number → at < length now.units → with_unit c (write place unit) d at ≡ slice_get (slice_set was.units address unit) at
      own d at own_is low = elim (same_or_not at address) [
        | inl same ↦
            (elim (slice_get_cases was.units address).1 [
              | inl some ↦
                  write_here c place unit some.0 d at own_is same (ap (λ k. c k at) own_is ∙ ap (λ k. c number k) same ∙ old address inside ∙ some.2)
                  ∙ sym (get-set_same was.units address unit inside) ∙ ap (λ k. slice_get (slice_set was.units address unit) k) (sym same)
              | inr past ↦ (let high = past.0 in absurd (omega (arith, high, inside)))
            ])
        | inr ne ↦
            write_else c place unit d at (inr ne) ∙ ap (λ k. c k at) own_is
            ∙ old at (let many = ap length written ∙ length-set was.units address unit in omega (arith, low, many)) ∙ sym (get-set_other was.units address at unit ne)
      ]

-- a write that no drive in memory has a unit for
pub units_nearby : (lost : List Bool) (c : Cells) (caches : List Held) (place : Place) (unit : List ℕ) → HaveUnits lost c caches
    → ((d at : ℕ) (m : Held) → slice_get caches d ≡ Some m → is_lost lost d ≡ false → at < length m.units → (d ≢ place.drive) ⊎ (at ≢ place.address))
    → HaveUnits lost (with_unit c (write place unit)) caches
units_nearby lost c caches place unit have apart = record {
  each = λ d at m e not low. write_else c place unit d at (apart d at m e not low) ∙ have.each d at m e not low;
}
