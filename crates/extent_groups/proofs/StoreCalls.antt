-- What both stores promise, from what a read or a write of the slot's site leaves.
use Rattle.std.proofs.Common.{◌≡◌, ℕ, ◌<◌, Bool, Option, Some, List, length, sym, ◌∙◌, ap, subst, arith, get_or}
use Rattle.std.proofs.lemmas.Option.{slice_get-get_or, slice_get_within}
use Rattle.extents.specs.Failures.{Failures}
use Rattle.extent_groups.specs.declared.place.Place.{Place}
use Rattle.extent_groups.specs.Groups.{Groups, AreGroups}
use Rattle.extent_groups.specs.Cells.{Cells, cells}
use Rattle.extent_groups.specs.Units.{Site, unit_at, site_of, IsSoundAt}
use Rattle.extent_groups.specs.Calls.{AreSized, FadesAt, if_ok, NoPlace, KeepsDrives}
use Rattle.extent_groups.specs.Layout.{IsDriveDisjoint}
use Rattle.extent_groups.specs.Stores.{unit_bytes, unit_of, AreSound, AreDrives, KeepsUnits, KeepsOthers, WroteSlot, LeavesSites}
use Rattle.extent_groups.proofs.LayoutLaw.{layout_law}
use Rattle.extent_groups.proofs.DriveCalls.{keeps_sizes, cells_sized}
use Rattle.extent_groups.proofs.SlotWrites.{AreSizedCells, ok_is, slots_fade, slot_leaves, unit_at_site}

-- the drives are those of the groups afterwards too
pub drives_kept : {D : Type 0} {units : D → List (List ℕ)} {lost : D → Bool} {failures : D → Failures} {touched : Place → Type 0} {a b : List D} (t : Groups)
    → KeepsDrives units lost failures touched a b → AreDrives units t a → AreDrives units t b
drives_kept {D = D} {units = units} {a = a} t keeps are = record {
  many = λ d y ey.
      (let within : d < length a = omega (arith, slice_get_within _ d y ey, keeps.many) in
      let x : D = get_or a d y in
      let ex = slice_get-get_or a d y within in
      (keeps.each d x y ex ey).room ∙ are.many d x ex);
  sized = keeps_sizes keeps are.sized;
  there = λ g k m at. let there = are.there g k m at in (omega (arith, there.0, keeps.many), there.1);
}

-- units of this length fit the drives
pub sized_as : {D : Type 0} {units : D → List (List ℕ)} (t : Groups) (ds : List D) (n : ℕ) → n ≡ unit_bytes t → AreDrives units t ds → AreSized units n ds
sized_as {units = units} t ds n e are = subst (λ m. AreSized units m ds) (sym e) are.sized

pub sized_cells : {D : Type 0} (units : D → List (List ℕ)) (lost : D → Bool) (t : Groups) (ds : List D) → AreDrives units t ds → AreSizedCells (unit_bytes t) (cells units lost ds)
sized_cells units lost t ds are = cells_sized units lost (unit_bytes t) ds are.sized

-- every slot's site is whole and sound
pub site_whole : (t : Groups) (slot : ℕ) (site : Site) → AreGroups t → site_of t slot ≡ Some site → IsDriveDisjoint site
site_whole t slot site are at = (layout_law t are).whole slot site at

-- what a read leaves
pub record ReadKeeps {D : Type 0} (units : D → List (List ℕ)) (lost : D → Bool) (t : Groups) (old new : List D) : Type 0 where
  pub all : KeepsUnits t (cells units lost old) (cells units lost new)
  pub sound : AreSound t (cells units lost new)
  pub drives : AreDrives units t new

pub read_keeps : {D : Type 0} {units : D → List (List ℕ)} {lost : D → Bool} {failures : D → Failures} (t : Groups) (old new : List D) → AreGroups t → AreDrives units t old
    → AreSound t (cells units lost old) → ((x : Place) → FadesAt (cells units lost old) (cells units lost new) x) → KeepsDrives units lost failures NoPlace old new
    → ReadKeeps units lost t old new
read_keeps {units = units} {lost = lost} t old new are drives sound fades keeps =
    let both = slots_fade t (cells units lost old) (cells units lost new) (layout_law t are) (sized_cells units lost t old drives) sound fades in
    record { all = both.0; sound = both.1; drives = drives_kept t keeps drives }

-- the unit of the slot, by that of its site
pub slot_unit : (t : Groups) (c : Cells) (slot : ℕ) (site : Site) (n : ℕ) (a : Option (List ℕ)) → site_of t slot ≡ Some site → n ≡ unit_bytes t → unit_at n c site ≡ a → unit_of t c slot ≡ a
slot_unit t c slot site n a at size e = unit_at_site t c slot site at ∙ ap (λ m. unit_at m c site) (sym size) ∙ e

-- a slot's site is sound, for units of this length
pub sound_site : (t : Groups) (c : Cells) (slot : ℕ) (site : Site) (n : ℕ) → site_of t slot ≡ Some site → n ≡ unit_bytes t → AreSound t c → IsSoundAt n c site
sound_site t c slot site n at size sound = subst (λ m. IsSoundAt m c site) (sym size) (sound slot site at)

-- what a write of a slot's site leaves of all slots
pub site_wrote : {D : Type 0} (units : D → List (List ℕ)) (lost : D → Bool) (t : Groups) (slot : ℕ) (site : Site) (n : ℕ) (old new : List D) (unit : List ℕ) (ok : Bool)
    → AreGroups t → site_of t slot ≡ Some site → n ≡ unit_bytes t → unit_at n (cells units lost new) site ≡ if_ok ok unit
    → (IsSoundAt n (cells units lost old) site → LeavesSites n (cells units lost old) (cells units lost new) site)
    → WroteSlot t (cells units lost old) (cells units lost new) slot unit
site_wrote units lost t slot site n old new unit ok are at size is leaves =
    let both : AreSound t (cells units lost old) → KeepsOthers t (cells units lost old) (cells units lost new) slot × AreSound t (cells units lost new) =
    λ sound. slot_leaves t (cells units lost old) (cells units lost new) slot site (layout_law t are) sound at
    (subst (λ m. LeavesSites m (cells units lost old) (cells units lost new) site) size (leaves (sound_site t (cells units lost old) slot site n at size sound))) in
    record {
      unit = λ v e. sym (ok_is ok unit v (sym (slot_unit t (cells units lost new) slot site n (if_ok ok unit) at size is) ∙ e));
      others = λ sound. (both sound).0;
      sound = λ sound. (both sound).1;
    }
