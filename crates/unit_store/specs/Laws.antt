-- Losses one after another are losses.
use Rattle.std.specs.Prelude.{ℕ, Bool, List, refl}
use Rattle.std.proofs.Common.{◌∙◌}
use Rattle.extents.specs.Failures.{Failures}
use Rattle.extent_groups.proofs.DriveCalls.{keeps_none, keeps_trans}
use Rattle.unit_store.specs.declared.parts.Parts.{Parts}
use Rattle.unit_store.specs.Losses.{LosesOnly}

-- where nothing happens nothing is lost
pub loses_none : {D : Type 0} (units : D → List (List ℕ)) (lost : D → Bool) (failures : D → Failures) (p : Parts D) → LosesOnly units lost failures p p
loses_none units lost failures p = record { tables = record { shape = refl; groups = refl; extents = refl; note = refl }; drives = keeps_none p.drives.items }

-- and losses add up
pub loses_more : {D : Type 0} (units : D → List (List ℕ)) (lost : D → Bool) (failures : D → Failures) (p q r : Parts D)
    → LosesOnly units lost failures p q → LosesOnly units lost failures q r → LosesOnly units lost failures p r
loses_more units lost failures p q r one two = record {
  tables = record { shape = two.tables.shape ∙ one.tables.shape; groups = two.tables.groups ∙ one.tables.groups; extents = two.tables.extents ∙ one.tables.extents; note = two.tables.note ∙ one.tables.note };
  drives = keeps_trans one.drives two.drives;
}
