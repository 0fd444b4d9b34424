-- Drives are those of the groups, and ready for the stores: from groups and owners that agree, over losses from outside, and with a drive more.
use Rattle.std.proofs.Common.{◌≡◌, ℕ, zero, suc, ◌*◌, ◌<◌, inl, inr, Bool, true, false, Option, Some, None, List, [], ◌∷◌, ◌++◌, length, refl, sym, ◌∙◌, ap, subst, arith, length-append, if◌then◌else◌}
use Rattle.std.specs.Prelude.{slice_get, slice_set, replicate}
use Rattle.std.proofs.lemmas.List.{length-set, length-replicate}
use Rattle.std.proofs.lemmas.Option.{same_Some, none-some}
use Rattle.extents.specs.declared.mem_drive.Condition.{Condition}
use Rattle.extents.specs.declared.mem_drive.Condition.TheVariants.{Present, Fused, Lost, Burnt}
use Rattle.extents.specs.Condition.{is_gone, after_fuse, after_loss}
use Rattle.extents.specs.Owners.{Owners, with_owner}
use Rattle.extents.specs.Sizes.{extent_units}
use Rattle.extents.specs.Units.{AreUnitsSized, zero_units}
use Rattle.extent_groups.specs.declared.class.Member.{Member}
use Rattle.extent_groups.specs.declared.place.Place.{Place}
use Rattle.extent_groups.specs.Groups.{Groups, AreGroups, Agree, with_owners}
use Rattle.extent_groups.specs.Cells.{cell, cells, held}
use Rattle.extent_groups.specs.Units.{Site, site_of}
use Rattle.extent_groups.specs.Calls.{AreSized}
use Rattle.extent_groups.specs.Layout.{IsOf, IsLayout}
use Rattle.extent_groups.specs.Stores.{unit_bytes, unit_of, AreSound, AreDrives, KeepsUnits, IsConsistent}
use Rattle.extent_groups.proofs.Places.{get-set_same, get-set_other, same_or_not}
use Rattle.extent_groups.proofs.Fresh.{or_none}
use Rattle.extent_groups.proofs.Blank.{blank_site}
use Rattle.extent_groups.proofs.Losses.{set_fades, site_same, unit_same}
use Rattle.extent_groups.proofs.Sites.{site_places}
use Rattle.extent_groups.proofs.SlotWrites.{slots_fade}
use Rattle.extent_groups.proofs.StoreCalls.{sized_cells}

-- giving members an owner keeps the number of drives and of extents
pub rows_given : (o : Owners) (ms : List Member) (x : Option ℕ) → length (with_owners o ms x).rows ≡ length o.rows
rows_given o [] x = refl
rows_given o (m ∷ ms) x = rows_given (with_owner o m.drive m.extent x) ms x ∙ length-set o.rows m.drive _

pub extents_given : (o : Owners) (ms : List Member) (x : Option ℕ) → (with_owners o ms x).extents ≡ o.extents
extents_given o [] x = refl
extents_given o (m ∷ ms) x = extents_given (with_owner o m.drive m.extent x) ms x

-- what drives of zeros hold
zero_unit : (size count at : ℕ) (u : List ℕ) → slice_get (zero_units size count) at ≡ Some u → u ≡ replicate size 0
zero_unit size count at u e = elim (or_none count (replicate size 0) at) [
  | inl is ↦ same_Some u (replicate size 0) (sym e ∙ is)
  | inr past ↦ absurd (none-some u (sym past ∙ e))
]

lost_blank : {D : Type 0} (units : D → List (List ℕ)) (n : ℕ) (b : Bool) (x : D) (at : ℕ) → ((u : List ℕ) → slice_get (units x) at ≡ Some u → u ≡ replicate n 0)
    → (u : List ℕ) → (if b then None else slice_get (units x) at) ≡ Some u → u ≡ replicate n 0
lost_blank units n true x at h u e = absurd (none-some u e)
lost_blank units n false x at h u e = h u e

cell_blank : {D : Type 0} (units : D → List (List ℕ)) (lost : D → Bool) (n : ℕ) (o : Option D) (at : ℕ) → ((x : D) → o ≡ Some x → (u : List ℕ) → slice_get (units x) at ≡ Some u → u ≡ replicate n 0)
    → (u : List ℕ) → cell units lost o at ≡ Some u → u ≡ replicate n 0
cell_blank units lost n None at h u e = absurd (none-some u e)
cell_blank units lost n (Some x) at h u e = lost_blank units n (lost x) x at (h x refl) u e

-- drives with the array's sizes are those of the groups that agree with the owners, where both count the same drives and extents
pub agree_drives : {D : Type 0} {units : D → List (List ℕ)} (t : Groups) (o : Owners) (ds : List D) → Agree t o → length o.rows ≡ length ds → o.extents ≡ t.extents
    → ((d : ℕ) (x : D) → slice_get ds d ≡ Some x → length (units x) ≡ t.extents * extent_units t.segments) → AreSized units (unit_bytes t) ds → AreDrives units t ds
agree_drives t o ds agree rows wide many sized = record {
  many = many;
  sized = sized;
  there = λ g k m at. let is = (agree.owned g k m at).0 in (omega (arith, is.within, rows), omega (arith, is.inside, wide));
}

-- drives of zeros are ready for the groups that agree with the owners, where both count the same drives and extents
pub new_drives_ready : {D : Type 0} (units : D → List (List ℕ)) (lost : D → Bool) (t : Groups) (o : Owners) (ds : List D) → Agree t o → length o.rows ≡ length ds → o.extents ≡ t.extents
    → ((d : ℕ) (x : D) → slice_get ds d ≡ Some x → units x ≡ zero_units (unit_bytes t) (t.extents * extent_units t.segments)) → IsConsistent units lost t ds
new_drives_ready units lost t o ds agree rows wide zeros = record {
  drives_are = agree_drives t o ds agree rows wide
      (λ d x e. ap length (zeros d x e) ∙ length-replicate {A = List ℕ} (t.extents * extent_units t.segments) (replicate (unit_bytes t) 0))
      (λ d x e at u there. ap length (zero_unit (unit_bytes t) (t.extents * extent_units t.segments) at u (sym (ap (λ us. slice_get us at) (zeros d x e)) ∙ there)) ∙ length-replicate {A = ℕ} (unit_bytes t) 0);
  sound = λ slot site at. (blank_site (unit_bytes t) (cells units lost ds) site
      (λ p _ u e. cell_blank units lost (unit_bytes t) (slice_get ds p.drive) p.address
      (λ x there w is. zero_unit (unit_bytes t) (t.extents * extent_units t.segments) p.address w (sym (ap (λ us. slice_get us p.address) (zeros p.drive x there)) ∙ is)) u e)).0;
}

-- drives with one of them replaced by one of the same units are those of the groups
pub drives_set : {D : Type 0} {units : D → List (List ℕ)} (t : Groups) (ds : List D) (d : ℕ) (x y : D) → AreDrives units t ds
    → d < length ds → slice_get ds d ≡ Some x → units y ≡ units x → AreDrives units t (slice_set ds d y)
drives_set {D = D} {units = units} t ds d x y are inside there same =
    let was : (e : ℕ) (z : D) → slice_get (slice_set ds d y) e ≡ Some z → (w : D) × (slice_get ds e ≡ Some w) × (units z ≡ units w) =
    λ e z at. elim (same_or_not e d) [
      | inl q ↦
          (let is : y ≡ z = same_Some y z (sym (get-set_same ds d y inside) ∙ subst (λ k. slice_get (slice_set ds d y) k ≡ Some z) q at) in
          (x, ap (slice_get ds) q ∙ there, ap units (sym is) ∙ same))
      | inr ne ↦ (z, sym (get-set_other ds d e y ne) ∙ at, refl)
    ] in
    record {
      many = λ e z at. let w = was e z at in ap length w.2 ∙ are.many e w.0 w.1;
      sized = λ e z at. let w = was e z at in subst (AreUnitsSized (unit_bytes t)) (sym w.2) (are.sized e w.0 w.1);
      there = λ g k m at. let r = are.there g k m at in (omega (arith, r.0, length-set ds d y), r.1);
    }

-- a drive of the same units, lost at least where it was: each slot's unit that exists afterwards is what it was, and all stays sound
pub loss_keeps : {D : Type 0} (units : D → List (List ℕ)) (lost : D → Bool) (t : Groups) (ds : List D) (d : ℕ) (x y : D) → IsLayout t → AreDrives units t ds → AreSound t (cells units lost ds)
    → d < length ds → slice_get ds d ≡ Some x → units y ≡ units x → (lost x ≡ true → lost y ≡ true)
    → KeepsUnits t (cells units lost ds) (cells units lost (slice_set ds d y)) × AreSound t (cells units lost (slice_set ds d y))
loss_keeps units lost t ds d x y layout are sound inside there same stays =
    slots_fade t (cells units lost ds) (cells units lost (slice_set ds d y)) layout (sized_cells units lost t ds are) sound (set_fades units lost ds d x y inside there same stays)

-- appending an element leaves the others at their places
get-more : {X : Type 0} (xs : List X) (y : X) (d : ℕ) → d < length xs → slice_get (xs ++ y ∷ []) d ≡ slice_get xs d
get-more [] y d h = absurd (omega arith)
get-more (x ∷ xs) y zero h = refl
get-more (x ∷ xs) y (suc d) h = get-more xs y d (omega arith)

-- what holds of each element of a list, and of one appended to it, holds of each of them all
pub each_more : {X : Type 0} (P : X → Type 0) (xs : List X) (y : X) → ((d : ℕ) (x : X) → slice_get xs d ≡ Some x → P x) → P y → (d : ℕ) (x : X) → slice_get (xs ++ y ∷ []) d ≡ Some x → P x
each_more P [] y h p zero x e = subst P (same_Some y x e) p
each_more P [] y h p (suc d) x e = absurd (none-some x e)
each_more P (z ∷ xs) y h p zero x e = h 0 x e
each_more P (z ∷ xs) y h p (suc d) x e = each_more P xs y (λ k w f. h (suc k) w f) p d x e

-- a drive more, with the array's sizes: the drives are those of the groups, every slot's unit is what it was, and all stays sound
pub drive_more : {D : Type 0} (units : D → List (List ℕ)) (lost : D → Bool) (t : Groups) (ds : List D) (y : D) → AreGroups t → AreDrives units t ds
    → length (units y) ≡ t.extents * extent_units t.segments → AreUnitsSized (unit_bytes t) (units y)
    → AreDrives units t (ds ++ y ∷ [])
    × ((slot : ℕ) → unit_of t (cells units lost (ds ++ y ∷ [])) slot ≡ unit_of t (cells units lost ds) slot)
    × (AreSound t (cells units lost ds) → AreSound t (cells units lost (ds ++ y ∷ [])))
drive_more units lost t ds y groups are many sized =
    let longer = length-append ds (y ∷ []) in
    let same : (slot : ℕ) (site : Site) → site_of t slot ≡ Some site → (x : Place) → IsOf site x → held (cells units lost (ds ++ y ∷ [])) x ≡ held (cells units lost ds) x =
    λ slot site at x of. ap (λ o. cell units lost o x.address) (get-more ds y x.drive (site_places units t ds slot site groups are at x of).inside) in (
      record {
        many = each_more (λ x. length (units x) ≡ t.extents * extent_units t.segments) ds y are.many many;
        sized = each_more (λ x. AreUnitsSized (unit_bytes t) (units x)) ds y are.sized sized;
        there = λ g k m at. let r = are.there g k m at in (omega (arith, r.0, longer), r.1);
      },
      λ slot. unit_same (unit_bytes t) (cells units lost ds) (cells units lost (ds ++ y ∷ [])) (site_of t slot) (λ site at. same slot site at),
      λ sound slot site at. (site_same (unit_bytes t) (cells units lost ds) (cells units lost (ds ++ y ∷ [])) site (same slot site at)).1 (sound slot site at),
    )

-- a fuse and a loss from outside bring no drive back
pub fused_stays : (c : Condition) (n : ℕ) → is_gone c ≡ true → is_gone (after_fuse c n) ≡ true
fused_stays Present n e = absurd (let both : false ≡ true = e in cc)
fused_stays (Fused k) n e = absurd (let both : false ≡ true = e in cc)
fused_stays Lost n e = refl
fused_stays Burnt n e = refl

pub lost_stays : (c : Condition) → is_gone c ≡ true → is_gone (after_loss c) ≡ true
lost_stays Present e = refl
lost_stays (Fused k) e = refl
lost_stays Lost e = refl
lost_stays Burnt e = refl
