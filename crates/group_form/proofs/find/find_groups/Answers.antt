use Rattle.std.proofs.Common.{List, ℕ, sym, subst}
use Rattle.vault.specs.Images.{Image, recovered}
use Rattle.group_form.specs.Reading.{AreUnitsOf}
use Rattle.group_form.proofs.Reading.{as_found, only_ok, units_spell}
use Rattle.group_form.proofs.find.find_groups.Goals as goal

pub returns-clause-only : goal.returns-clause-only
returns-clause-only g c = λ known other count are sizes has.
    let cells = recovered (g.V.Vault.seen c.args.vault.now) in
    let units : AreUnitsOf c.deref.result.now cells = subst (λ (l : List (List ℕ)). AreUnitsOf l cells) (sym c.deref.ensures.value) (c.in_ok-units.ensures.units known _ (as_found (g.V.Vault.attested c.args.vault.now) (Image.cells (g.V.Vault.seen c.args.vault.now)))) in
    only_ok _ _ c.read_groups.result c.read_groups.ensures.spelled (λ s spelled.
    c.read_groups.ensures.only other count are sizes (units_spell other count c.deref.result.now cells spelled.many units has))
