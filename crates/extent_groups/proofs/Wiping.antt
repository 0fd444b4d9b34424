-- A unit more of an extent that is wiped from its first offset on.
use Rattle.std.proofs.Common.{◌≡◌, ◌≢◌, ℕ, ◌+◌, ◌<◌, inl, inr, Bool, true, Some, None, List, refl, sym, ◌∙◌, ap, subst, arith}
use Rattle.std.specs.Prelude.{slice_get}
use Rattle.std.proofs.lemmas.Option.{none-some}
use Rattle.extents.specs.Failures.{Failures}
use Rattle.extents.specs.Sizes.{extent_units}
use Rattle.extent_groups.specs.declared.class.Member.{Member}
use Rattle.extent_groups.specs.declared.place.Place.{Place}
use Rattle.extent_groups.specs.Cells.{cells, held}
use Rattle.extent_groups.specs.Calls.{DidWrite, Only, SameBut, KeepsDrives}
use Rattle.extent_groups.specs.Missing.{missing_of}
use Rattle.extent_groups.specs.Units.{place_of}
use Rattle.extent_groups.specs.Wiping.{HasExtent, IsWipedTo}
use Rattle.extent_groups.proofs.Places.{same_or_not}
use Rattle.extent_groups.proofs.DriveCalls.{keeps_trans, keeps_more, keeps_none, keeps_place}
use Rattle.extent_groups.proofs.Missing.{missing_if, cell_missing}

-- at first nothing is wiped
pub wiped_none : {D : Type 0} (units : D → List (List ℕ)) (lost : D → Bool) (failures : D → Failures) (s : ℕ) (m : Member) (bytes : List ℕ) (ds : List D) → IsWipedTo units lost failures s m bytes 0 ds ds
wiped_none units lost failures s m bytes ds = record { wiped = λ o low. absurd (omega arith); others = λ d no. refl; touched = keeps_none ds }

-- a write that failed lost the drive
pub wipe_failed : {D : Type 0} (units : D → List (List ℕ)) (lost : D → Bool) (failures : D → Failures) (s o : ℕ) (m : Member) (bytes : List ℕ) (old mid new : List D) → HasExtent units s old m → o < extent_units s
    → IsWipedTo units lost failures s m bytes o old mid → KeepsDrives units lost failures (Only (place_of s o m)) mid new → held (cells units lost new) (place_of s o m) ≡ None
    → missing_of lost new m.drive ≡ true
wipe_failed units lost failures s o m bytes old mid new has low before keeps gone =
    missing_if units lost new (place_of s o m) (keeps_place keeps (keeps_place before.touched (has o low))) gone

-- what calls touch and use when one more place of the extent is written
pub wipe_touched : {D : Type 0} (units : D → List (List ℕ)) (lost : D → Bool) (failures : D → Failures) (s o : ℕ) (m : Member) (bytes : List ℕ) (old mid new : List D) → o < extent_units s
    → IsWipedTo units lost failures s m bytes o old mid → KeepsDrives units lost failures (Only (place_of s o m)) mid new → SameBut (λ d. d ≡ m.drive) mid new
    → IsWipedTo units lost failures s m bytes 0 old new
wipe_touched units lost failures s o m bytes old mid new low before keeps same = record {
  wiped = λ p none. absurd (omega arith);
  others = λ d no. same d no ∙ before.others d no;
  touched = keeps_trans before.touched (keeps_more (λ x e. (o, low, e)) keeps);
}

pub wiped_more : {D : Type 0} (units : D → List (List ℕ)) (lost : D → Bool) (failures : D → Failures) (s o : ℕ) (m : Member) (bytes : List ℕ) (old mid new : List D) → HasExtent units s old m → o < extent_units s
    → IsWipedTo units lost failures s m bytes o old mid → DidWrite (cells units lost mid) (cells units lost new) (place_of s o m) bytes true → KeepsDrives units lost failures (Only (place_of s o m)) mid new
    → SameBut (λ d. d ≡ m.drive) mid new → IsWipedTo units lost failures s m bytes (o + 1) old new
wiped_more units lost failures s o m bytes old mid new has low before did keeps same =
    let touched = wipe_touched units lost failures s o m bytes old mid new low before keeps same in
    record {
      wiped = λ p below. elim (same_or_not p o) [
        | inl q ↦ subst (λ k. held (cells units lost new) (place_of s k m) ≡ Some bytes) (sym q) did.here
        | inr ne ↦
            (let less : p < o = omega (arith, below, ne) in
            let within : p < extent_units s = omega (arith, less, low) in
            let apart : place_of s p m ≢ place_of s o m = λ e. (let one = ap (λ (x : Place). x.address) e in ne (omega (arith, one))) in
            elim (did.nearby (place_of s p m) apart) [
              | inl e ↦ e ∙ before.wiped p less
              | inr gone ↦
                  (let lost_now = missing_if units lost new (place_of s p m) (keeps_place keeps (keeps_place before.touched (has p within))) gone in
                  absurd (none-some bytes (sym (cell_missing units lost (slice_get new m.drive) (place_of s o m).address lost_now) ∙ did.here)))
            ])
      ];
      others = touched.others;
      touched = touched.touched;
    }
