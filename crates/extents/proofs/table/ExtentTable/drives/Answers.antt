use Rattle.std.proofs.Common.{◌≡◌, ℕ, ◌<◌, length, subst}
use Rattle.extents.specs.Owners.{Owners, owner_row}
use Rattle.extents.proofs.Setting.{wide-owners_in}
use Rattle.extents.proofs.table.ExtentTable.drives.Goals as goal

pub returns-clause-wide : goal.returns-clause-wide
returns-clause-wide c =
    subst (λ (o : Owners). (drive : ℕ) → drive < length o.rows → length (owner_row o drive) ≡ o.extents) c.self.view_is (wide-owners_in _ _ c.self.invariant)
