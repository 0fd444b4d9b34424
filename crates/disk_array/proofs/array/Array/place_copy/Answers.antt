use Rattle.std.proofs.Common.{◌≡◌, ◌≢◌, ◌+◌, ◌∙◌, [], ◌∷◌, ◌++◌, vec_len, None, Some, ap, get_or, refl, sym, subst, rules}
use Rattle.std.proofs.Math.ListN.{set}
use Rattle.std.proofs.lemmas.Option.{same_Some}
use Rattle.map_join.specs.declared.records.Record.{Record}
use Rattle.map_join.specs.Record.{key_of, record_at}
use Rattle.extent_groups.specs.Groups.{Groups}
use Rattle.flat_machine.specs.Groups.{class_at}
use Rattle.flat_machine.specs.Steps.{Copy, Copied, Refused}
use Rattle.flat_machine.specs.Cases.{CopyCase, CopyPasses}
use Rattle.flat_machine.proofs.Commits.{emitted_by}
use Rattle.unit_store.specs.Slots.{IsSlot}
use Rattle.unit_store.specs.Views.{PartsView, view_of, WasMoved, WasNotCarried}
use Rattle.unit_store.proofs.Views.{view_drives}
use Rattle.slot_tables.specs.Changes.{copy_reason, copy_view, commit_view, full_reason, without_old}
use Rattle.slot_tables.specs.Views.{ArrayView, Nothing, Moving, Newest, kept_at, key_at, with_parts}
use Rattle.slot_tables.specs.Kept.{kepts_of}
use Rattle.slot_tables.proofs.AtOnce.{copied_whole, copied_at_once}
use Rattle.slot_tables.proofs.Commits.{place_kept, place_apart}
use Rattle.slot_tables.proofs.Copies.{CanCopy, can_copy, copy_slot, copy_gone, copy_refused}
use Rattle.slot_tables.proofs.Fills.{as_whole}
use Rattle.slot_tables.proofs.Finds.{read_slot}
use Rattle.slot_tables.proofs.Placing.{placed_slot}
use Rattle.disk_array.specs.Inside.{seen}
use Rattle.disk_array.proofs.Placed.{shown, placed_is, as_put, uncarried_refused, not_full}
use Rattle.disk_array.proofs.Ready.{either_way, Keeps, keeps, uncarried_keeps, still_whole, still_ready, as_many, as_refused}
use Rattle.disk_array.proofs.Refusing.{uncarried_reported, uncopied_reported}
use Rattle.disk_array.proofs.array.Array.place_copy.Given as given
use Rattle.disk_array.proofs.array.Array.place_copy.Goals.{After-of, In-Err-copy_under}
use Rattle.disk_array.proofs.array.Array.place_copy.Goals as goal

pub returns-in-Err-clause-flat : goal.returns-in-Err-clause-flat
returns-in-Err-clause-flat g c F w shows held =
    copy_refused c.args.self.now F w (g.C.Hold.names c.args.claim) c.args.block c.in-Err.refusal (search rules) shows held

pub copy_under-requires-clause-from : goal.copy_under-requires-clause-from
copy_under-requires-clause-from g c =
    subst (λ (v : ArrayView). IsSlot v.parts.groups c.in-Ok.source.place) (sym c.self.view_is)
    (read_slot c.args.self.now c.args.block c.in-Ok.source c.reported.ensures.whole (sym c.reported.ensures.value ∙ c.in-Ok.ensures.ok.1))

pub copy_under-requires-clause-to : goal.copy_under-requires-clause-to
copy_under-requires-clause-to g c =
    subst (λ (v : ArrayView). IsSlot v.parts.groups c.slot-slot.result) (sym c.self.view_is)
    (copy_slot c.args.self.now c.slot-slot.result c.in-Ok.source (search rules))

pub invariant_of-self-in-Err-copy_under : goal.invariant_of-self-in-Err-copy_under
invariant_of-self-in-Err-copy_under g c =
    let d = g.D.Drive in
    let now = seen d.units d.lost d.failures c.self.inside in
    let b = view_of d.units d.lost d.failures c.copy_under.new.self in
    let same : Keeps now.parts b = either_way {P = Keeps now.parts b} c.copy_under.result (λ x w. keeps now.parts b w.fares w.rest) (λ q e. uncarried_keeps now.parts b _ _ q e) c.copy_under.ensures.ok c.copy_under.ensures.err in (
      as_whole _ _ (ap (λ l. record now { parts = b; log = l }) c.reserve.ensures.items) (still_whole d.units d.lost d.failures c.self.inside c.copy_under.new.self same c.copy_under.ensures.fit c.self.invariant.0),
      c.self.invariant.1,
      (let ready = still_ready d.units d.lost d.failures c.self.inside c.copy_under.new.self c.copy_under.new.unit c.copy_under.new.scratch same c.copy_under.ensures.fit c.self.invariant.2 in
          record { fit = ready.fit; unit = ready.unit; scratch = ready.scratch; places = ready.places; live = ready.live }),
    )

-- what the drives' refusal says
missed : (g : given.Over) (c : In-Err-copy_under g)
    → WasNotCarried c.args.self.now.parts (view_of g.D.Drive.units g.D.Drive.lost g.D.Drive.failures c.copy_under.new.self) c.in-Ok.source.place (g.C.Hold.names c.args.claim) c.in-Err-copy_under.refusal
missed g c =
    let b = view_of g.D.Drive.units g.D.Drive.lost g.D.Drive.failures c.copy_under.new.self in
    subst (λ n. WasNotCarried c.args.self.now.parts b c.in-Ok.source.place n c.in-Err-copy_under.refusal) c.slot-slot.ensures
    (subst (λ (v : ArrayView). WasNotCarried v.parts b c.in-Ok.source.place c.slot-slot.result c.in-Err-copy_under.refusal) c.self.view_is c.in-Err-copy_under.ensures.err)

pub returns-in-Err-copy_under-clause-err : goal.returns-in-Err-copy_under-clause-err
returns-in-Err-copy_under-clause-err g c =
    let d = g.D.Drive in
    let now = seen d.units d.lost d.failures c.self.inside in
    let b = view_of d.units d.lost d.failures c.copy_under.new.self in (
      refl,
      uncarried_refused c.args.self.now _ b _ _ c.in-Err-copy_under.refusal
          (ap (λ l. record now { parts = b; log = l }) c.reserve.ensures.items ∙ ap (λ (v : ArrayView). with_parts v b) c.self.view_is)
          (missed g (goal.at.returns-in-Err-copy_under-clause-err g c).In-Err-copy_under),
    )

pub returns-in-Err-copy_under-clause-flat : goal.returns-in-Err-copy_under-clause-flat
returns-in-Err-copy_under-clause-flat g c F w shows held =
    let d = g.D.Drive in
    let now = seen d.units d.lost d.failures c.self.inside in
    let b = view_of d.units d.lost d.failures c.copy_under.new.self in
    let s = g.C.Hold.names c.args.claim in
    let q = c.in-Err-copy_under.refusal in
    as_refused q ((r : Record) × CopyPasses F w s c.args.block r) (λ G. CopyCase F w s c.args.block (Refused q) G) _ (with_parts c.args.self.now b)
    (ap (λ l. record now { parts = b; log = l }) c.reserve.ensures.items ∙ ap (λ (v : ArrayView). with_parts v b) c.self.view_is)
    (copy_gone c.args.self.now b F w s c.args.block c.in-Ok.source q (sym c.reported.ensures.value ∙ c.in-Ok.ensures.ok.1) (search rules)
    (missed g (goal.at.returns-in-Err-copy_under-clause-flat g c).In-Err-copy_under) shows held)

pub keep_placed-old-requires-clause-inside : goal.keep_placed-old-requires-clause-inside
keep_placed-old-requires-clause-inside g c =
    let s = c.slot-slot.result in
    let can : CanCopy c.args.self.now s c.in-Ok.source = can_copy c.args.self.now s c.in-Ok.source (search rules) in
    let groups : c.self.inside.parts.groups ≡ c.args.self.now.parts.groups = ap (λ (v : ArrayView). v.parts.groups) c.self.view_is in
    placed_slot c.self.inside.parts.groups s (vec_len c.self.inside.places) (subst (λ (z : Groups). class_at z s ≢ None) (sym groups) can.class) c.self.invariant.2.places

pub keep_placed-old-requires-clause-free : goal.keep_placed-old-requires-clause-free
keep_placed-old-requires-clause-free g c =
    let can : CanCopy c.args.self.now c.slot-slot.result c.in-Ok.source = can_copy c.args.self.now c.slot-slot.result c.in-Ok.source (search rules) in
    ap (λ (v : ArrayView). kept_at v c.slot-slot.result) c.self.view_is ∙ can.free

pub keep_placed-old-requires-clause-newest : goal.keep_placed-old-requires-clause-newest
keep_placed-old-requires-clause-newest g c x is =
    ap (λ (v : ArrayView). get_or v.kept x.place Nothing) c.self.view_is
    ∙ place_kept c.args.self.now c.args.block c.reported.ensures.whole x (sym c.reported.ensures.value ∙ c.in-Ok.ensures.ok.1 ∙ is)

-- the record, what was written, and what the array shows then
abbrev stamp : (g : given.Over) (c : After-of g) → Record
stamp g c = emitted_by c.args.block (g.C.Hold.names c.args.claim) c.in-Ok.source.version (c.in-Ok.source.hop + 1)

abbrev parts : (g : given.Over) (c : After-of g) → PartsView
parts g c = view_of g.D.Drive.units g.D.Drive.lost g.D.Drive.failures c.copy_under.new.self

reported : (g : given.Over) (c : After-of g) → c.moved_record-stamp.result ≡ stamp g c
reported g c = c.moved_record-stamp.ensures ∙ (λ i. emitted_by c.args.block (c.slot-slot.ensures i) c.in-Ok.source.version (c.in-Ok.source.hop + 1))

none : (g : given.Over) (c : After-of g) → copy_reason c.args.self.now (g.C.Hold.names c.args.claim) (Some c.in-Ok.source) ≡ None
none g c = search rules

found : (g : given.Over) (c : After-of g) → record_at c.args.block (key_at c.args.self.now c.args.block) ≡ Some c.in-Ok.source
found g c = sym c.reported.ensures.value ∙ c.in-Ok.ensures.ok.1

was : (g : given.Over) (c : After-of g) → WasMoved (stamp g c) c.args.self.now.parts (parts g c) c.in-Ok.source.place (g.C.Hold.names c.args.claim) c.in_default.field-0
was g c =
    let from = c.in-Ok.source.place in
    let k = c.in_default.field-0 in
    subst (λ r. WasMoved r c.args.self.now.parts (parts g c) from (g.C.Hold.names c.args.claim) k) (reported g c)
    (subst (λ n. WasMoved c.moved_record-stamp.result c.args.self.now.parts (parts g c) from n k) c.slot-slot.ensures
    (subst (λ (v : ArrayView). WasMoved c.moved_record-stamp.result v.parts (parts g c) from c.slot-slot.result k) c.self.view_is c.in_default.ensures.ok))

apart : (g : given.Over) (c : After-of g) (q : Record) → Some c.in-Ok.source ≡ Some q → q.place ≡ g.C.Hold.names c.args.claim → ⊥
apart g c q is = place_apart c.args.self.now (g.C.Hold.names c.args.claim) c.args.block c.reported.ensures.whole (can_copy c.args.self.now _ c.in-Ok.source (none g c)).free q (found g c ∙ is)

shows_then : (g : given.Over) (c : After-of g)
    → shown (parts g c) c.push_reserved.new.self.items (set c.self.inside.keys.items c.args.block c.key.result) (kepts_of c.keep_placed-old.new.places.items)
    ≡ commit_view (copy_view (with_parts c.args.self.now (parts g c)) (g.C.Hold.names c.args.claim) c.in-Ok.source c.in_default.field-0) (g.C.Hold.names c.args.claim) c.args.block
    (Some c.in-Ok.source) (stamp g c)
shows_then g c =
    placed_is c.args.self.now (parts g c) (g.C.Hold.names c.args.claim) c.args.block (Moving c.in-Ok.source c.in_default.field-0) (Some c.in-Ok.source) (stamp g c) _ _ _
    (apart g c)
    (c.push_reserved.ensures.items ∙ (λ i. (c.reserve.ensures.items ∙ ap (λ (v : ArrayView). v.log) c.self.view_is) i ++ (reported g c i) ∷ []))
    (λ i. set (c.self.view_is i).keys c.args.block ((c.key.ensures.value ∙ ap key_of (reported g c)) i))
    (c.keep_placed-old.ensures.kept
    ∙ (λ i. set (without_old (c.self.view_is i).kept (Some c.in-Ok.source)) (c.slot-slot.ensures i) (Newest c.args.block)))

-- what it shows, as it follows from the key of the block
abbrev view : (g : given.Over) (c : After-of g) → ArrayView
view g c = commit_view (copy_view (with_parts c.args.self.now (parts g c)) (g.C.Hold.names c.args.claim) c.in-Ok.source c.in_default.field-0) (g.C.Hold.names c.args.claim) c.args.block
    (record_at c.args.block (key_at c.args.self.now c.args.block)) (stamp g c)

shows_found : (g : given.Over) (c : After-of g)
    → shown (parts g c) c.push_reserved.new.self.items (set c.self.inside.keys.items c.args.block c.key.result) (kepts_of c.keep_placed-old.new.places.items) ≡ view g c
shows_found g c =
    shows_then g c ∙ ap (λ o. commit_view (copy_view (with_parts c.args.self.now (parts g c)) (g.C.Hold.names c.args.claim) c.in-Ok.source c.in_default.field-0) (g.C.Hold.names c.args.claim)
    c.args.block o (stamp g c)) (sym (found g c))

pub invariant_of-self-2 : goal.invariant_of-self-2
invariant_of-self-2 g c =
    let d = g.D.Drive in
    let at = (goal.at.invariant_of-self-2 g c).After-of in
    let now = seen d.units d.lost d.failures c.self.inside in
    let b = view_of d.units d.lost d.failures c.copy_under.new.self in
    let same : Keeps now.parts b = either_way {P = Keeps now.parts b} c.copy_under.result (λ x w. keeps now.parts b w.fares w.rest) (λ q e. uncarried_keeps now.parts b _ _ q e) c.copy_under.ensures.ok c.copy_under.ensures.err in (
      as_whole _ _ (shows_found g at)
          (copied_whole c.args.self.now b (g.C.Hold.names c.args.claim) c.args.block (search rules) c.requires
          (view_drives d.units d.lost d.failures c.copy_under.new.self c.copy_under.ensures.fit.drives) c.reported.ensures.whole
          c.in-Ok.source c.in_default.field-0 (none g at) (found g at) (was g at)),
      c.keep_placed-old.ensures.claims,
      (let ready = still_ready d.units d.lost d.failures c.self.inside c.copy_under.new.self c.copy_under.new.unit c.copy_under.new.scratch same c.copy_under.ensures.fit c.self.invariant.2 in
          record {
            fit = ready.fit;
            unit = ready.unit;
            scratch = ready.scratch;
            places = as_many _ _ _ c.keep_placed-old.ensures.room ready.places;
            live = c.keep_placed-old.ensures.counts;
          }),
    )

pub returns-clause-done : goal.returns-clause-done
returns-clause-done g c =
    let at = (goal.at.returns-clause-done g c).After-of in
    let reported_is : c.of.result ≡ stamp g at = c.of.ensures ∙ reported g at in (
      c.in-Ok.source,
      c.in_default.field-0,
      found g at,
      shows_then g at ∙ ap (λ r. commit_view (copy_view (with_parts c.args.self.now (parts g at)) (g.C.Hold.names c.args.claim) c.in-Ok.source c.in_default.field-0) (g.C.Hold.names c.args.claim)
          c.args.block (Some c.in-Ok.source) r) (sym reported_is),
      reported_is,
      c.keep_placed-old.ensures.old,
      subst (λ r. WasMoved r c.args.self.now.parts (parts g at) c.in-Ok.source.place (g.C.Hold.names c.args.claim) c.in_default.field-0) (sym reported_is) (was g at),
    )

pub returns-clause-flat : goal.returns-clause-flat
returns-clause-flat g c F w shows held =
    let d = g.D.Drive in
    let at = (goal.at.returns-clause-flat g c).After-of in
    let s = g.C.Hold.names c.args.claim in
    let room : full_reason c.args.self.now ≡ None = not_full c.args.self.now (search rules) in
    as_put F (Copy w s c.args.block) (Copied s) w s c.args.block c.of.result (stamp g at) _ (view g at) (c.of.ensures ∙ reported g at) (shows_found g at)
    (copied_at_once c.args.self.now (parts g at) s c.args.block (search rules) c.requires
    (view_drives d.units d.lost d.failures c.copy_under.new.self c.copy_under.ensures.fit.drives) c.reported.ensures.whole
    c.in-Ok.source c.in_default.field-0 (none g at) (found g at) (was g at) F w room shows held)

pub returns-in-Err-clause-memory : goal.returns-in-Err-clause-memory
returns-in-Err-clause-memory g c is =
    uncopied_reported c.args.self.now (g.C.Hold.names c.args.claim) (record_at c.args.block (key_at c.args.self.now c.args.block)) c.in-Err.refusal (search rules) (same_Some _ _ is)

pub returns-in-Err-copy_under-clause-memory : goal.returns-in-Err-copy_under-clause-memory
returns-in-Err-copy_under-clause-memory g c is = uncarried_reported _ _ _ _ c.in-Err-copy_under.refusal c.in-Err-copy_under.ensures.err (same_Some _ _ is)
