use Rattle.std.proofs.Common.{◌≡◌, ◌≤◌, suc, arith, List, Bool, sym, subst, ◌∙◌, refl, ap}
use Rattle.history.specs.Entries.{Course}
use Rattle.cached_drive.specs.Saving.{Units}
use Rattle.journaled_store.specs.Steps.{IsInStep}
use Rattle.journaled_store.specs.Picking.{IsLookedUp}
use Rattle.journaled_store.specs.declared.lookup.Lookup.{Lookup}
use Rattle.journaled_store.proofs.Picking.{all_picked, none_picked}
use Rattle.journaled_store.proofs.Leading.{shown_has}
use Rattle.journaled_store.proofs.Noting.{leads_noted, other_table, table_step, table_noted, table_has, shown_marks}
use Rattle.journaled_store.proofs.Batching.{when_ok}
use Rattle.journaled_store.proofs.publishing.collect.Goals as goal

pub returns-clause-step : goal.returns-clause-step
returns-clause-step g c lost d step =
    let mid = c.visit_drives.new.visitor in
    let now = c.note_lost.new.changes in
    let leads = c.visit_drives.ensures.leads.0 in
    let few : mid.keeper.hired ≤ 16 = omega (arith, c.if-hired.false, c.hired.ensures, leads.hired) in
    subst (λ (k : Course Units). IsInStep lost k now.batch d) (sym c.note_lost.ensures.keeper)
    (table_step lost mid.keeper mid.batch now.batch now.noted d few c.note_lost.ensures.batch (leads.step lost d step))

pub returns-clause-noted : goal.returns-clause-noted
returns-clause-noted g c d noted =
    let old = c.args.changes.now in
    let mid = c.visit_drives.new.visitor in
    let now = c.note_lost.new.changes in
    table_noted mid.noted now.noted mid.batch now.batch d c.note_lost.ensures.batch c.note_lost.ensures.same
    (leads_noted old.keeper mid.keeper old.batch mid.batch old.noted mid.noted d c.visit_drives.ensures.leads.0 noted)

pub returns-clause-rest : goal.returns-clause-rest
returns-clause-rest g c d at =
    let mid = c.visit_drives.new.visitor in
    let now = c.note_lost.new.changes in
    other_table mid.batch now.batch now.noted d at c.note_lost.ensures.batch ∙ c.visit_drives.ensures.leads.0.others d 16 (suc at) (omega arith)

pub returns-clause-has : goal.returns-clause-has
returns-clause-has g c is lost d step =
    let old = c.args.changes.now in
    let mid = c.visit_drives.new.visitor in
    let now = c.note_lost.new.changes in
    let leads = c.visit_drives.ensures.leads.0 in
    let drives = c.args.store.now.tiers.world.array.parts.drives in
    let shown = sym (c.if-not-visit_drives.ensures.shown refl) in
    let most : mid.next ≤ mid.keeper.hired = omega (arith, c.if-from-hired.false, c.from.ensures, c.hired-2.ensures) in
    let few : mid.next ≤ 16 = omega (arith, most, c.if-hired.false, c.hired.ensures, leads.hired) in
    table_has mid.keeper.log mid.lost mid.next drives shown few lost mid.batch now.batch now.noted d c.note_lost.ensures.batch
    (shown_has old.keeper mid.keeper old.batch mid.batch mid.lost old.noted mid.noted mid.next drives leads shown most lost d step)

pub returns-clause-marks : goal.returns-clause-marks
returns-clause-marks g c is =
    let mid = c.visit_drives.new.visitor in
    let now = c.note_lost.new.changes in
    let leads = c.visit_drives.ensures.leads.0 in
    let drives = c.args.store.now.tiers.world.array.parts.drives in
    let shown = sym (c.if-not-visit_drives.ensures.shown refl) in
    let few : mid.next ≤ 16 = omega (arith, c.if-from-hired.false, c.from.ensures, c.hired-2.ensures, c.if-hired.false, c.hired.ensures, leads.hired) in
    shown_marks mid.keeper.log mid.lost mid.next drives shown few now.noted c.note_lost.ensures.long
    (when_ok c.note_lost.result (sym c.is_ok.ensures.value ∙ is) c.note_lost.ensures.noted)

pub returns-clause-place : goal.returns-clause-place
returns-clause-place g c =
    let picks = c.visit_drives.ensures.leads.1 in
    let same = c.note_lost.ensures.lookup in
    (ap (λ (w : Lookup). w.drive) same ∙ picks.drive, ap (λ (w : Lookup). w.address) same ∙ picks.address)

pub returns-clause-picked : goal.returns-clause-picked
returns-clause-picked g c is =
    let mid = c.visit_drives.new.visitor in
    let now = c.note_lost.new.changes in
    let picks = c.visit_drives.ensures.leads.1 in
    let drives = c.args.store.now.tiers.world.array.parts.drives in
    let shown = sym (c.if-not-visit_drives.ensures.shown refl) in
    let leads = c.visit_drives.ensures.leads.0 in
    let few : mid.next ≤ 16 = omega (arith, c.if-from-hired.false, c.from.ensures, c.hired-2.ensures, c.if-hired.false, c.hired.ensures, leads.hired) in
    let found = all_picked mid.keeper.log mid.lost mid.next drives mid.lookup shown few (picks.keeps (none_picked c.args.changes.now.keeper.log c.args.changes.now.lookup)) in
    subst (λ (w : Lookup). IsLookedUp drives now.lost now.next w) (sym c.note_lost.ensures.lookup)
    (subst (λ (l : List Bool). IsLookedUp drives l now.next mid.lookup) (sym c.note_lost.ensures.shown.0)
    (subst (λ n. IsLookedUp drives mid.lost n mid.lookup) (sym c.note_lost.ensures.shown.1) found))
