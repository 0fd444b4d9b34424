use Rattle.std.proofs.Common.{◌≡◌, rules, sym, ap, ◌∙◌, subst, get_or, true, None}
use Rattle.map_join.specs.Record.{record_at}
use Rattle.map_join.specs.declared.records.Record.{Record}
use Rattle.extents.specs.declared.header.Header.TheVariants.{Is}
use Rattle.extents.specs.Header.{IsHeader}
use Rattle.flat_machine.specs.Flat.{Flat}
use Rattle.flat_machine.specs.Steps.{Commit, Committed, Refused}
use Rattle.flat_machine.specs.Cases.{CommitCase, IsAllocating}
use Rattle.unit_store.specs.Slots.{IsSlot}
use Rattle.unit_store.specs.Views.{view_of, FoundGone, WasCarried}
use Rattle.slot_tables.specs.Changes.{commit_view, commit_record, commit_reason, kind_given}
use Rattle.slot_tables.specs.Represents.{ShowsArray}
use Rattle.slot_tables.specs.Views.{ArrayView, IsWhole, Nothing, is_waiting, kept_at, key_at, with_parts}
use Rattle.slot_tables.proofs.Fills.{as_whole, as_shown}
use Rattle.slot_tables.proofs.Commits.{commit_whole, old_found, passed_apart}
use Rattle.slot_tables.proofs.Committing.{commit_case, commit_gone, commit_refused, commit_slot, commit_waits, commit_needs, commit_ok}
use Rattle.disk_array.specs.Inside.{seen}
use Rattle.disk_array.proofs.Ready.{as_many, either_way, Keeps, keeps, uncarried_keeps, carried_gone, still_whole, still_ready, as_refused}
use Rattle.disk_array.proofs.array.Array.commit.Goals as goal

pub returns-in-Err-clause-flat : goal.returns-in-Err-clause-flat
returns-in-Err-clause-flat g c F w shows mine =
    commit_refused c.args.self.now F w c.args.ticket c.args.block c.in-Err.refusal (subst IsWhole c.self.view_is c.self.invariant.0) (search rules) shows mine

pub returns-then-is_err-clause-flat : goal.returns-then-is_err-clause-flat
returns-then-is_err-clause-flat g c F w shows mine =
    commit_needs c.args.self.now F w c.args.ticket c.args.block (subst IsWhole c.self.view_is c.self.invariant.0) (search rules) shows mine

pub carry-requires-clause-from : goal.carry-requires-clause-from
carry-requires-clause-from g c =
    subst (λ (v : ArrayView). IsSlot v.parts.groups c.slot-slot.result) (sym c.self.view_is)
    (commit_slot c.args.self.now c.slot-slot.result c.args.block c.newest-found.result (subst IsWhole c.self.view_is c.self.invariant.0) c.in-Ok.ensures.ok.0)

pub carry-requires-clause-to : goal.carry-requires-clause-to
carry-requires-clause-to g c = carry-requires-clause-from g c

pub carry-requires-clause-header : goal.carry-requires-clause-header
carry-requires-clause-header g c =
    let found = record_at c.args.block (key_at c.args.self.now c.args.block) in
    subst (λ (r : Record). IsHeader (Is r c.waiting_kind-kind.result)) (sym (c.in-Ok.ensures.ok.1 ∙ ap (λ o. commit_record c.args.self.now c.slot-slot.result c.args.block o) c.newest-found.ensures.value))
    (commit_ok c.args.self.now c.slot-slot.result c.args.block (subst IsWhole c.self.view_is c.self.invariant.0) (search rules) (search rules)
    (ap (λ o. commit_reason c.args.self.now c.slot-slot.result c.args.block o) (sym c.newest-found.ensures.value) ∙ c.in-Ok.ensures.ok.0))

pub invariant_of-self-in-Err-carry : goal.invariant_of-self-in-Err-carry
invariant_of-self-in-Err-carry g c =
    let d = g.D.Drive in
    let now = seen d.units d.lost d.failures c.self.inside in
    let b = view_of d.units d.lost d.failures c.carry.new.self in
    let same : Keeps now.parts b = either_way {P = Keeps now.parts b} c.carry.result (λ x w. keeps now.parts b w.fares w.rest) (λ q e. uncarried_keeps now.parts b _ _ q e) c.carry.ensures.ok c.carry.ensures.err in (
      as_whole _ _ (ap (λ l. record now { parts = b; log = l }) c.reserve.ensures.items) (still_whole d.units d.lost d.failures c.self.inside c.carry.new.self same c.carry.ensures.fit c.self.invariant.0),
      c.self.invariant.1,
      (let ready = still_ready d.units d.lost d.failures c.self.inside c.carry.new.self c.carry.new.unit c.carry.new.scratch same c.carry.ensures.fit c.self.invariant.2 in
          record { fit = ready.fit; unit = ready.unit; scratch = ready.scratch; places = ready.places; live = ready.live }),
    )

pub returns-in-Err-carry-clause-flat : goal.returns-in-Err-carry-clause-flat
returns-in-Err-carry-clause-flat g c F w shows mine =
    let d = g.D.Drive in
    let now = seen d.units d.lost d.failures c.self.inside in
    let b = view_of d.units d.lost d.failures c.carry.new.self in
    let s = c.args.ticket in
    let q = c.in-Err-carry.refusal in
    let gone : FoundGone c.args.self.now.parts b s q =
    subst (λ n. FoundGone c.args.self.now.parts b n q) c.slot-slot.ensures
    (subst (λ (v : ArrayView). FoundGone v.parts b c.slot-slot.result q) c.self.view_is (carried_gone now.parts b c.slot-slot.result q c.in-Err-carry.ensures.err))
    in
    as_refused q (IsAllocating F (Commit w s c.args.block)) (λ G. CommitCase F w s c.args.block (Refused q) G) _ (with_parts c.args.self.now b)
    (ap (λ l. record now { parts = b; log = l }) c.reserve.ensures.items ∙ ap (λ (v : ArrayView). with_parts v b) c.self.view_is)
    (commit_gone c.args.self.now b F w s c.args.block q (subst IsWhole c.self.view_is c.self.invariant.0) (search rules) gone shows mine)

pub let_go-old-requires-clause-newest : goal.let_go-old-requires-clause-newest
let_go-old-requires-clause-newest g c x is =
    ap (λ (v : ArrayView). get_or v.kept x.place Nothing) c.self.view_is
    ∙ (old_found c.args.self.now c.slot-slot.result c.args.block c.newest-found.result c.newest-found.ensures.value
    (subst IsWhole c.self.view_is c.self.invariant.0)
    (commit_waits c.args.self.now c.slot-slot.result c.args.block c.newest-found.result c.in-Ok.ensures.ok.0)).kept
    x is

pub keep_newest-requires-clause-waits : goal.keep_newest-requires-clause-waits
keep_newest-requires-clause-waits g c =
    let waits : is_waiting (kept_at c.args.self.now c.slot-slot.result) ≡ true =
    commit_waits c.args.self.now c.slot-slot.result c.args.block c.newest-found.result c.in-Ok.ensures.ok.0
    in
    ap is_waiting
    (ap (λ k. get_or k c.slot-slot.result Nothing) c.let_go-old.ensures.kept
    ∙ passed_apart _ c.slot-slot.result c.newest-found.result
    (old_found c.args.self.now c.slot-slot.result c.args.block c.newest-found.result c.newest-found.ensures.value
    (subst IsWhole c.self.view_is c.self.invariant.0) waits).apart
    ∙ ap (λ (v : ArrayView). get_or v.kept c.slot-slot.result Nothing) c.self.view_is) ∙ waits

pub invariant_of-self-2 : goal.invariant_of-self-2
invariant_of-self-2 g c =
    let d = g.D.Drive in
    let now = seen d.units d.lost d.failures c.self.inside in
    let b = view_of d.units d.lost d.failures c.carry.new.self in
    let same : Keeps now.parts b = either_way {P = Keeps now.parts b} c.carry.result (λ x w. keeps now.parts b w.fares w.rest) (λ q e. uncarried_keeps now.parts b _ _ q e) c.carry.ensures.ok c.carry.ensures.err in
    let old = c.args.self.now in
    let found = record_at c.args.block (key_at old c.args.block) in
    let none : commit_reason old c.slot-slot.result c.args.block found ≡ None =
    ap (λ o. commit_reason old c.slot-slot.result c.args.block o) (sym c.newest-found.ensures.value) ∙ c.in-Ok.ensures.ok.0
    in
    let is : c.of.result ≡ commit_record old c.slot-slot.result c.args.block found =
    c.of.ensures ∙ c.in-Ok.ensures.ok.1 ∙ ap (λ o. commit_record old c.slot-slot.result c.args.block o) c.newest-found.ensures.value
    in
    let whole = subst IsWhole c.self.view_is c.self.invariant.0 in
    let still : IsWhole (with_parts old b) = subst (λ (v : ArrayView). IsWhole (with_parts v b)) c.self.view_is (still_whole d.units d.lost d.failures c.self.inside c.carry.new.self same c.carry.ensures.fit c.self.invariant.0) in (
      as_whole _ (commit_view (with_parts old b) c.slot-slot.result c.args.block found c.of.result) (search rules)
          (subst (λ (r : Record). IsWhole (commit_view (with_parts old b) c.slot-slot.result c.args.block found r)) (sym is)
          (commit_whole (with_parts old b) c.slot-slot.result c.args.block _ _ still (search rules) (search rules)
          (commit_waits old c.slot-slot.result c.args.block found none)
          (commit_ok old c.slot-slot.result c.args.block whole (search rules) (search rules) none))),
      c.keep_newest.ensures.claims,
      (let ready = still_ready d.units d.lost d.failures c.self.inside c.carry.new.self c.carry.new.unit c.carry.new.scratch same c.carry.ensures.fit c.self.invariant.2 in
          record {
            fit = ready.fit;
            unit = ready.unit;
            scratch = ready.scratch;
            places = as_many _ _ _ (c.keep_newest.ensures.room ∙ c.let_go-old.ensures.room) ready.places;
            live = c.keep_newest.ensures.counts;
          }),
    )

pub returns-clause-flat : goal.returns-clause-flat
returns-clause-flat g c F w shows mine =
    let d = g.D.Drive in
    let now = seen d.units d.lost d.failures c.self.inside in
    let b = view_of d.units d.lost d.failures c.carry.new.self in
    let old = c.args.self.now in
    let found = record_at c.args.block (key_at old c.args.block) in
    let none : commit_reason old c.args.ticket c.args.block found ≡ None = search rules in
    let is : c.of.result ≡ commit_record old c.args.ticket c.args.block found = search rules in
    let was : WasCarried old.parts b c.args.ticket c.args.ticket (Is (commit_record old c.args.ticket c.args.block found) (kind_given (kept_at old c.args.ticket))) = search rules in
    as_shown (λ G. CommitCase F w c.args.ticket c.args.block (Committed c.of.result) G) _
    (commit_view (with_parts old b) c.args.ticket c.args.block found c.of.result) (search rules)
    (subst (λ (r : Record). (G : Flat) × (CommitCase F w c.args.ticket c.args.block (Committed r) G)
    × (ShowsArray (commit_view (with_parts old b) c.args.ticket c.args.block found r) G)) (sym is)
    (commit_case old b F w c.args.ticket c.args.block (subst IsWhole c.self.view_is c.self.invariant.0) (search rules) (search rules) none was shows mine))

pub returns-clause-done : goal.returns-clause-done
returns-clause-done g c = search rules
