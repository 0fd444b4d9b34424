use Rattle.std.proofs.Common.{◌≡◌, ◌-◌, ℕ, List, Some, None, rules, length, sym, ◌∙◌, subst}
use Rattle.std.specs.Vec.{with_items}
use Rattle.std.proofs.lemmas.List.{with_items_is}
use Rattle.flat_machine.specs.Flat.{Stored, content_in, waiting_unit}
use Rattle.unit_store.specs.Shows.{IsUnit}
use Rattle.slot_tables.specs.Changes.{copy_reason}
use Rattle.slot_tables.proofs.Copies.{copy_refused}
use Rattle.disk_array.specs.Laws.{only_more}
use Rattle.disk_array.proofs.Ready.{length_again}
use Rattle.crash_points.proofs.Copying.{copy_flat, copy_unread}
use Rattle.crash_points.proofs.Steps.{list_flat, run_flat}
use Rattle.crash_points.proofs.plan.plan_copy.Goals as goal

pub returns-in-Err-clause-flat : goal.returns-in-Err-clause-flat
returns-in-Err-clause-flat g c F w shows held =
    copy_refused c.args.array.now F w c.args.slot c.args.block c.in-Err.refusal
    (subst (λ found. copy_reason c.args.array.now c.args.slot found ≡ Some c.in-Err.refusal) c.newest.ensures.value c.in-Err.ensures.err) shows held

pub returns-in-Err-read_unit-clause-flat : goal.returns-in-Err-read_unit-clause-flat
returns-in-Err-read_unit-clause-flat g c F w shows held =
    let reported = c.in-Ok.ensures.ok in
    copy_unread c.args.array.now c.read_unit.new.array c.args.slot c.args.block c.in-Ok.source c.in-Err-read_unit.refusal (sym c.newest.ensures.value ∙ reported.1)
    (subst (λ found. copy_reason c.args.array.now c.args.slot found ≡ None) reported.1 reported.0) c.read_unit.ensures.loses c.in-Err-read_unit.ensures.err F w shows held

pub returns-clause-flat : goal.returns-clause-flat
returns-clause-flat g c F w shows held =
    let d = g.D.Drive in
    let reported = c.in-Ok.ensures.ok in
    let unit = c.in-Ok-read_unit.unit in
    let new = c.set_waiting.new.unit in
    let is : (with_items unit new).items ≡ new = with_items_is unit new (search rules) in
    let waits : (u : Stored) → IsUnit unit.items u → IsUnit new (waiting_unit (length unit.items - 32) (content_in u)) =
    subst (λ (z : List ℕ). (u : Stored) → IsUnit z u → IsUnit new (waiting_unit (length z - 32) (content_in u))) c.deref_mut.ensures.value c.set_waiting.ensures in
    copy_flat d.units d.lost d.failures c.args.array.now c.read_unit.new.array c.list_unit.new.array c.args.slot c.args.block c.in-Ok.source unit.items (with_items unit new).items
    (sym c.newest.ensures.value ∙ reported.1) (subst (λ found. copy_reason c.args.array.now c.args.slot found ≡ None) reported.1 reported.0) c.whole-2.ensures c.read_unit.ensures.loses
    c.in-Ok-read_unit.ensures.ok c.in-Ok-read_unit.ensures.long (λ u h. subst (λ z. IsUnit z (waiting_unit (length unit.items - 32) (content_in u))) (sym is) (waits u h)) (length_again unit new) c.list_unit.ensures.loses
    c.list_unit.result c.list_unit.ensures.ok c.list_unit.ensures.there c.list_unit.ensures.err F w shows held

pub returns-clause-run : goal.returns-clause-run
returns-clause-run g c =
    let d = g.D.Drive in
    run_flat d.units d.lost d.failures c.list_unit.new.array c.args.slot (with_items c.in-Ok-read_unit.unit c.set_waiting.new.unit).items c.list_unit.result c.list_unit.ensures.ok

pub returns-clause-loses : goal.returns-clause-loses
returns-clause-loses g c = only_more c.args.array.now c.read_unit.new.array c.list_unit.new.array c.read_unit.ensures.loses c.list_unit.ensures.loses

pub returns-clause-list : goal.returns-clause-list
returns-clause-list g c = list_flat c.list_unit.new.array c.args.slot (with_items c.in-Ok-read_unit.unit c.set_waiting.new.unit).items c.list_unit.result c.list_unit.ensures.ok
