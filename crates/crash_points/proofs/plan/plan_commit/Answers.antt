use Rattle.std.proofs.Common.{◌≡◌, ◌++◌, ℕ, List, Some, None, Option, rules, drop, ◌∙◌, ap, subst, arith}
use Rattle.std.specs.Vec.{with_items}
use Rattle.std.proofs.lemmas.List.{with_items_is}
use Rattle.map_join.specs.declared.records.Record.{Record}
use Rattle.map_join.specs.Record.{record_at}
use Rattle.extents.specs.Header.{header_bytes}
use Rattle.extents.specs.declared.header.Header.TheVariants.{Is}
use Rattle.slot_tables.specs.Changes.{commit_reason, commit_record, kind_given}
use Rattle.slot_tables.specs.Views.{key_at, kept_at}
use Rattle.slot_tables.proofs.Committing.{commit_refused}
use Rattle.disk_array.specs.Laws.{only_more}
use Rattle.disk_array.proofs.Ready.{length_again}
use Rattle.crash_points.proofs.Committing.{commit_flat, commit_unread}
use Rattle.crash_points.proofs.Steps.{list_flat, run_flat}
use Rattle.crash_points.proofs.plan.plan_commit.Goals as goal

pub returns-in-Err-clause-flat : goal.returns-in-Err-clause-flat
returns-in-Err-clause-flat g c F w shows mine =
    commit_refused c.args.array.now F w c.args.slot c.args.block c.in-Err.refusal c.whole.ensures
    (subst (λ found. commit_reason c.args.array.now c.args.slot c.args.block found ≡ Some c.in-Err.refusal) c.newest.ensures.value c.in-Err.ensures.err) shows mine

pub returns-in-Err-read_unit-clause-flat : goal.returns-in-Err-read_unit-clause-flat
returns-in-Err-read_unit-clause-flat g c F w shows mine =
    commit_unread c.args.array.now c.read_unit.new.array c.args.slot c.args.block c.in-Err-read_unit.refusal c.whole.ensures
    (subst (λ found. commit_reason c.args.array.now c.args.slot c.args.block found ≡ None) c.newest.ensures.value c.in-Ok.ensures.ok.0) c.read_unit.ensures.loses c.in-Err-read_unit.ensures.err F w shows mine

pub returns-clause-flat : goal.returns-clause-flat
returns-clause-flat g c F w shows mine =
    let d = g.D.Drive in
    let a = c.args.array.now in
    let s = c.args.slot in
    let unit = c.in-Ok-read_unit.unit in
    let new = c.set_header.new.unit in
    let is : (with_items unit new).items ≡ new = with_items_is unit new (search rules) in
    let record_is : c.in-Ok.record ≡ commit_record a s c.args.block (record_at c.args.block (key_at a c.args.block)) =
    c.in-Ok.ensures.ok.1 ∙ ap (λ (found : Option Record). commit_record a s c.args.block found) c.newest.ensures.value in
    let reported : new ≡ header_bytes (Is (commit_record a s c.args.block (record_at c.args.block (key_at a c.args.block))) (kind_given (kept_at a s))) ++ drop 32 unit.items =
    c.set_header.ensures ∙ ap (λ (z : List ℕ). header_bytes (Is c.in-Ok.record c.waiting_kind-kind.result) ++ drop 32 z) c.deref_mut.ensures.value
    ∙ ap (λ (r : Record). header_bytes (Is r c.waiting_kind-kind.result) ++ drop 32 unit.items) record_is
    ∙ ap (λ k. header_bytes (Is (commit_record a s c.args.block (record_at c.args.block (key_at a c.args.block))) k) ++ drop 32 unit.items) c.waiting_kind-kind.ensures in
    commit_flat d.units d.lost d.failures a c.read_unit.new.array c.list_unit.new.array s c.args.block unit.items (with_items unit new).items c.whole.ensures (omega (arith, c.ranges.slot.fits)) c.requires
    (subst (λ found. commit_reason a s c.args.block found ≡ None) c.newest.ensures.value c.in-Ok.ensures.ok.0) c.read_unit.ensures.loses c.in-Ok-read_unit.ensures.ok c.in-Ok-read_unit.ensures.long
    (is ∙ reported) (length_again unit new) c.list_unit.ensures.loses c.list_unit.result c.list_unit.ensures.ok c.list_unit.ensures.there c.list_unit.ensures.err F w shows mine

pub returns-clause-run : goal.returns-clause-run
returns-clause-run g c =
    let d = g.D.Drive in
    run_flat d.units d.lost d.failures c.list_unit.new.array c.args.slot (with_items c.in-Ok-read_unit.unit c.set_header.new.unit).items c.list_unit.result c.list_unit.ensures.ok

pub returns-clause-loses : goal.returns-clause-loses
returns-clause-loses g c = only_more c.args.array.now c.read_unit.new.array c.list_unit.new.array c.read_unit.ensures.loses c.list_unit.ensures.loses

pub returns-clause-list : goal.returns-clause-list
returns-clause-list g c = list_flat c.list_unit.new.array c.args.slot (with_items c.in-Ok-read_unit.unit c.set_header.new.unit).items c.list_unit.result c.list_unit.ensures.ok
