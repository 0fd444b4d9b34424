-- One drive that is replaced by another of the same units.
use Rattle.std.proofs.Common.{◌≡◌, ℕ, ◌<◌, Bool, true, Some, List, length, sym, ◌∙◌, ap, subst, arith}
use Rattle.std.specs.Prelude.{slice_get, slice_set}
use Rattle.std.proofs.lemmas.List.{length-set}
use Rattle.extents.specs.Shapes.{IsShapeOf}
use Rattle.extents.specs.Owners.{Owners}
use Rattle.extent_groups.specs.Groups.{Groups, AreGroups, Agree}
use Rattle.extent_groups.specs.Cells.{cells}
use Rattle.extent_groups.specs.Stores.{AreSound, AreDrives, KeepsUnits}
use Rattle.extent_groups.proofs.LayoutLaw.{layout_law}
use Rattle.extent_groups.proofs.Readiness.{drives_set, loss_keeps}
use Rattle.unit_store.specs.declared.parts.Parts.{Parts}
use Rattle.unit_store.specs.Fit.{IsFit}
use Rattle.unit_store.specs.Slots.{cells_in}

-- what is left where a drive is replaced by one of the same units, lost at least where it was
pub record IsSet {D : Type 0} (units_of : D → List (List ℕ)) (lost : D → Bool) (p q : Parts D) : Type 0 where
  pub units : AreSound p.groups (cells_in units_of lost p) → KeepsUnits p.groups (cells_in units_of lost p) (cells_in units_of lost q)
  pub sound : AreSound p.groups (cells_in units_of lost p) → AreSound p.groups (cells_in units_of lost q)
  pub fit : IsFit units_of q

pub set : {D : Type 0} (units_of : D → List (List ℕ)) (lost : D → Bool) (p q : Parts D) (d : ℕ) (x y : D) → IsFit units_of p → q.shape ≡ p.shape → q.groups ≡ p.groups → q.extents ≡ p.extents → q.drives.items ≡ slice_set p.drives.items d y → d < length p.drives.items
    → slice_get p.drives.items d ≡ Some x → units_of y ≡ units_of x → (lost x ≡ true → lost y ≡ true) → IsSet units_of lost p q
set units_of lost p q d x y fit shape groups extents drives inside there same stays =
    let many : length q.drives.items ≡ length p.drives.items = ap length drives ∙ length-set p.drives.items d y in
    let keeps : AreSound p.groups (cells_in units_of lost p)
    → KeepsUnits p.groups (cells_in units_of lost p) (cells units_of lost (slice_set p.drives.items d y)) × AreSound p.groups (cells units_of lost (slice_set p.drives.items d y)) =
    λ sound. loss_keeps units_of lost p.groups p.drives.items d x y (layout_law p.groups fit.groups) fit.drives sound inside there same stays in
    record {
      units = λ sound. subst (λ ds. KeepsUnits p.groups (cells_in units_of lost p) (cells units_of lost ds)) (sym drives) (keeps sound).0;
      sound = λ sound. subst (λ ds. AreSound p.groups (cells units_of lost ds)) (sym drives) (keeps sound).1;
      fit = record {
        shape = subst (λ (t : Groups). IsShapeOf q.shape t.extents t.segments t.payload t.blocks) (sym groups)
            (subst (λ s. IsShapeOf s p.groups.extents p.groups.segments p.groups.payload p.groups.blocks) (sym shape) fit.shape);
        least = omega (arith, fit.least, many);
        most = omega (arith, fit.most, many);
        groups = subst AreGroups (sym groups) fit.groups;
        drives = subst (λ t. AreDrives units_of t q.drives.items) (sym groups)
            (subst (AreDrives units_of p.groups) (sym drives) (drives_set p.groups p.drives.items d x y fit.drives inside there same));
        agree = subst (λ t. Agree t q.extents) (sym groups) (subst (Agree p.groups) (sym extents) fit.agree);
        rows = ap (λ (o : Owners). length o.rows) extents ∙ fit.rows ∙ sym many;
        wide = ap (λ (o : Owners). o.extents) extents ∙ fit.wide ∙ sym (ap (λ (t : Groups). t.extents) groups);
      };
    }
