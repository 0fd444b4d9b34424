-- Extents of several members wiped one after another.
use Rattle.std.proofs.Common.{◌≡◌, ◌≢◌, ℕ, ◌+◌, ◌<◌, ◌≤◌, inl, inr, Bool, true, false, Some, List, refl, sym, ◌∙◌, ap, subst, arith}
use Rattle.std.specs.Prelude.{slice_get}
use Rattle.std.proofs.lemmas.Option.{none-some, same_Some}
use Rattle.extents.specs.Failures.{Failures}
use Rattle.extents.specs.Sizes.{extent_units}
use Rattle.flat_machine.specs.Groups.{AreApart, IsFirstLost}
use Rattle.extent_groups.specs.declared.class.Member.{Member}
use Rattle.extent_groups.specs.declared.place.Place.{Place}
use Rattle.extent_groups.specs.Cells.{cell, cells}
use Rattle.extent_groups.specs.Calls.{SameBut, KeepsDrives}
use Rattle.extent_groups.specs.Missing.{missing_of}
use Rattle.extent_groups.specs.Units.{place_of}
use Rattle.extent_groups.specs.Wiping.{HasExtent, IsInExtent, HoldBelow}
use Rattle.extent_groups.proofs.Places.{same_or_not}
use Rattle.extent_groups.proofs.DriveCalls.{keeps_trans, keeps_more, keeps_place}
use Rattle.extent_groups.proofs.Missing.{cell_missing}
use Rattle.unit_store.specs.Making.{AreWipedTo}

-- the drives have the extents still
pub extent_kept : {D : Type 0} {units : D → List (List ℕ)} {lost : D → Bool} {failures : D → Failures} {touched : Place → Type 0} {old new : List D} (s : ℕ) (m : Member)
    → KeepsDrives units lost failures touched old new → HasExtent units s old m → HasExtent units s new m
extent_kept s m keeps has o low = keeps_place keeps (has o low)

-- a call that used one member's drive alone leaves what the others' extents hold
wiped_still : {D : Type 0} (units : D → List (List ℕ)) (lost : D → Bool) (s i j : ℕ) (m n : Member) (ms : List Member) (bytes : List ℕ) (mid new : List D) → AreApart ms
    → slice_get ms i ≡ Some m → slice_get ms j ≡ Some n → j ≢ i → SameBut (λ d. d ≡ m.drive) mid new
    → HoldBelow s n bytes (extent_units s) (cells units lost mid) → HoldBelow s n bytes (extent_units s) (cells units lost new)
wiped_still units lost s i j m n ms bytes mid new apart ei ej ne same wiped o low =
    ap (λ x. cell units lost x (place_of s o n).address) (same n.drive (λ q. ne (apart j i n m ej ei q))) ∙ wiped o low

-- an extent that holds something is on a drive that is there
held_present : (b : Bool) → (b ≡ true → ⊥) → b ≡ false
held_present true h = absurd (h refl)
held_present false h = refl

pub wiped_present : {D : Type 0} (units : D → List (List ℕ)) (lost : D → Bool) (s : ℕ) (m : Member) (bytes : List ℕ) (ds : List D) → 1 ≤ s
    → HoldBelow s m bytes (extent_units s) (cells units lost ds) → missing_of lost ds m.drive ≡ false
wiped_present units lost s m bytes ds some wiped =
    held_present (missing_of lost ds m.drive)
    (λ gone. none-some bytes (sym (cell_missing units lost (slice_get ds m.drive) (place_of s 0 m).address gone) ∙ wiped 0 (omega arith)))

-- the next member's extent is wiped, or its drive is lost
pub more_touched : {D : Type 0} (units : D → List (List ℕ)) (lost : D → Bool) (failures : D → Failures) (s i : ℕ) (m : Member) (ms : List Member) (bytes : List ℕ) (old mid new : List D) → AreApart ms
    → slice_get ms i ≡ Some m → AreWipedTo units lost failures s ms bytes i old mid → SameBut (λ d. d ≡ m.drive) mid new → KeepsDrives units lost failures (IsInExtent s m) mid new
    → AreWipedTo units lost failures s ms bytes i old new
more_touched units lost failures s i m ms bytes old mid new apart at before same keeps = record {
  wiped = λ j n low ej. wiped_still units lost s i j m n ms bytes mid new apart at ej (λ e. (let never : i < i = subst (λ k. k < i) e low in omega arith)) same (before.wiped j n low ej);
  others = λ d no. same d (λ q. no (i, m, at, q)) ∙ before.others d no;
  touched = keeps_trans before.touched (keeps_more (λ x is. (i, m, at, is)) keeps);
}

pub more_wiped : {D : Type 0} (units : D → List (List ℕ)) (lost : D → Bool) (failures : D → Failures) (s i : ℕ) (m : Member) (ms : List Member) (bytes : List ℕ) (old mid new : List D) → AreApart ms
    → slice_get ms i ≡ Some m → AreWipedTo units lost failures s ms bytes i old mid → SameBut (λ d. d ≡ m.drive) mid new → KeepsDrives units lost failures (IsInExtent s m) mid new
    → HoldBelow s m bytes (extent_units s) (cells units lost new) → AreWipedTo units lost failures s ms bytes (i + 1) old new
more_wiped units lost failures s i m ms bytes old mid new apart at before same keeps wiped =
    let touched = more_touched units lost failures s i m ms bytes old mid new apart at before same keeps in
    record {
      wiped = λ j n low ej. elim (same_or_not j i) [
        | inl e ↦ subst (λ x. HoldBelow s x bytes (extent_units s) (cells units lost new)) (same_Some m n (sym at ∙ ap (slice_get ms) (sym e) ∙ ej)) wiped
        | inr ne ↦ touched.wiped j n (omega (arith, low, ne)) ej
      ];
      others = touched.others;
      touched = touched.touched;
    }

-- the first member whose drive is lost: all before it were wiped
pub first_lost : {D : Type 0} (units : D → List (List ℕ)) (lost : D → Bool) (failures : D → Failures) (s i : ℕ) (m : Member) (ms : List Member) (bytes : List ℕ) (old new : List D) → 1 ≤ s
    → slice_get ms i ≡ Some m → AreWipedTo units lost failures s ms bytes i old new → missing_of lost new m.drive ≡ true → IsFirstLost (missing_of lost new) ms m.drive
first_lost units lost failures s i m ms bytes old new some at before gone = record {
  number = i;
  member = m;
  there = at;
  is = refl;
  lost_is = gone;
  before = λ j n low ej. wiped_present units lost s n bytes new some (before.wiped j n low ej);
}
