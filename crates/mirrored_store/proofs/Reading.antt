-- What is read of two copies.
use Rattle.std.proofs.Common.{◌≡◌, ◌/◌, ◌⊎◌, ℕ, Bool, true, false, Some, None, List, inl, inr, refl, sym, subst, ap, ◌∙◌}
use Rattle.extents.specs.Failures.{Failures}
use Rattle.extent_groups.specs.declared.place.Place.{Place}
use Rattle.extent_groups.specs.Cells.{cells, front_units, held}
use Rattle.extent_groups.specs.Calls.{DidRead, KeepsDrives, NoPlace, SameBut, if_ok}
use Rattle.extent_groups.specs.Groups.{Groups, AreGroups}
use Rattle.extent_groups.specs.Stores.{AreDrives, HasMemberOn, ReadLeaves}
use Rattle.extent_groups.specs.Units.{Pair, or_else, site_of, unit_at}
use Rattle.extent_groups.proofs.Elsewhere.{same_more, site_member}
use Rattle.extent_groups.proofs.Losses.{kept_fades}
use Rattle.extent_groups.proofs.StoreCalls.{read_keeps, drives_kept}

-- the first copy was there
pub first_read : {D : Type 0} (units : D → List (List ℕ)) (lost : D → Bool) (n : ℕ) (a b : List D) (p q : Place) (u : List ℕ) (ok : Bool) → ok ≡ true
    → DidRead (cells (front_units n units) lost a) (cells (front_units n units) lost b) p u ok → unit_at n (cells (front_units n units) lost b) (Pair p q) ≡ Some u
first_read units lost n a b p q u ok there did =
    ap (λ h. or_else h (held (cells (front_units n units) lost b) q)) (subst (λ o. held (cells (front_units n units) lost b) p ≡ if_ok o u) there did.here)

-- the first copy wasn't there, and the second was read
pub second_read : {D : Type 0} (units : D → List (List ℕ)) (lost : D → Bool) (n m : ℕ) (a b c : List D) (p q : Place) (u v : List ℕ) (ok done : Bool) → ok ≡ false → m ≡ n
    → DidRead (cells (front_units n units) lost a) (cells (front_units n units) lost b) p u ok
    → DidRead (cells (front_units m units) lost b) (cells (front_units m units) lost c) q v done → unit_at n (cells (front_units n units) lost c) (Pair p q) ≡ if_ok done v
second_read units lost n m a b c p q u v ok done none same first second =
    let did : DidRead (cells (front_units n units) lost b) (cells (front_units n units) lost c) q v done =
    subst (λ k. DidRead (cells (front_units k units) lost b) (cells (front_units k units) lost c) q v done) same second in
    let gone : held (cells (front_units n units) lost b) p ≡ None = subst (λ o. held (cells (front_units n units) lost b) p ≡ if_ok o u) none first.here in
    let stays : held (cells (front_units n units) lost c) p ≡ None = elim (did.fades p) [ inl e ↦ e ∙ gone | inr e ↦ e ] in
    ap (λ h. or_else h (held (cells (front_units n units) lost c) q)) stays ∙ did.here

-- what a read of two copies leaves
pub pair_leaves : {D : Type 0} (units : D → List (List ℕ)) (lost : D → Bool) (failures : D → Failures) (t : Groups) (slot : ℕ) (p q : Place) (a b : List D) → AreGroups t → AreDrives units t a
    → site_of t slot ≡ Some (Pair p q) → KeepsDrives units lost failures NoPlace a b → SameBut (λ d. (d ≡ p.drive) ⊎ (d ≡ q.drive)) a b → ReadLeaves units lost failures t (slot / 128) a b
pair_leaves units lost failures t slot p q a b groups drives at keeps others = record {
  units_kept = λ s. (read_keeps t a b groups drives s (kept_fades keeps) keeps).all;
  sound = λ s. (read_keeps t a b groups drives s (kept_fades keeps) keeps).sound;
  touched = keeps;
  elsewhere =
      same_more a b
      (λ d is. elim is [
        | inl e ↦ subst (HasMemberOn t (slot / 128)) (sym e) (site_member t slot (Pair p q) p groups at (inl refl))
        | inr e ↦ subst (HasMemberOn t (slot / 128)) (sym e) (site_member t slot (Pair p q) q groups at (inr refl))
      ])
      others;
  drives = drives_kept t keeps drives;
}
