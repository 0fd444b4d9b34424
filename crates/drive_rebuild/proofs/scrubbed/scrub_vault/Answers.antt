use Rattle.std.proofs.Common.{◌≡◌, ◌∙◌, ◌+◌, ◌*◌, List, length, sym, ap, subst, arith}
use Rattle.extents.specs.Condition.{Held}
use Rattle.extents.specs.Sizes.{extent_units}
use Rattle.extents.specs.declared.shape.TheConstants.{HEADER_BYTES}
use Rattle.vault.specs.Images.{recovered}
use Rattle.array_recovery.specs.Found.{with_cells}
use Rattle.array_recovery.proofs.Attesting.{as_found}
use Rattle.array_recovery.proofs.Loading.{written_back}
use Rattle.drive_rebuild.specs.ScrubbedVault.{AreWithoutLost}
use Rattle.drive_rebuild.proofs.ScrubbingVault.{reports_vault}
use Rattle.drive_rebuild.proofs.scrubbed.scrub_vault.Goals as goal

pub returns-clause-honest : goal.returns-clause-honest
returns-clause-honest g c = λ known written last.
    let found = c.in_ok-found.ensures.honest known written last in
    let base = g.V.Vault.seen c.args.vault.now in
    let lost = c.in_ok-found.found.lost in
    let items = c.in_ok-found.found.caches.items in
    let lent : c.deref_mut.result.now ≡ items = c.deref_mut.ensures.value in
    let back = written_back c.in_ok-found.found.caches.len c.lose_all.new.caches items (c.lose_all.ensures.many ∙ ap length lent) (omega (arith, c.in_ok-found.found.caches.ok)) in
    let without = subst (λ (l : List Held). AreWithoutLost lost items l) (sym back) (subst (λ (l : List Held). AreWithoutLost lost l c.lose_all.new.caches) lent c.lose_all.ensures) in
    reports_vault c.args.drives (c.args.shape.now.extents * extent_units c.args.shape.now.segments) (HEADER_BYTES + c.args.shape.now.payload) lost (recovered (with_cells base written)) items
    c.in_ok-found.ensures.many c.in_ok-found.ensures.formed found.units _ _ _ c.scrub_parts.ensures.only without c.in_ok-found.found.marks c.args.absent.now found.table found.gone
    c.in_ok-findings.ensures.reported c.in_ok-findings.ensures.sound

pub returns-clause-reported : goal.returns-clause-reported
returns-clause-reported g c = λ known.
    let base = g.V.Vault.seen c.args.vault.now in
    returns-clause-honest g c known base.cells (as_found (g.V.Vault.attested c.args.vault.now) c.args.drives c.args.absent.now base)
