use Rattle.std.proofs.Common.{◌≡◌, ◌≢◌, ◌∙◌, [], ◌∷◌, ◌++◌, vec_len, None, Some, ap, get_or, sym, subst, rules}
use Rattle.std.proofs.lemmas.Option.{same_Some}
use Rattle.map_join.specs.declared.records.Record.{Record}
use Rattle.std.proofs.Math.ListN.{set}
use Rattle.map_join.specs.Record.{key_of, record_at}
use Rattle.extent_groups.specs.Groups.{Groups}
use Rattle.flat_machine.specs.Groups.{class_at}
use Rattle.flat_machine.specs.Flat.{kind_of, content_under}
use Rattle.flat_machine.specs.Steps.{Fill, Filled, Refused}
use Rattle.flat_machine.specs.Cases.{FillCase, FillPasses, next_version}
use Rattle.flat_machine.proofs.Commits.{emitted_by}
use Rattle.unit_store.specs.Slots.{IsSlot}
use Rattle.unit_store.specs.Views.{PartsView, view_of, placed_unit, FoundGone, WasPut}
use Rattle.unit_store.proofs.Views.{view_drives}
use Rattle.slot_tables.specs.Changes.{fill_reason, fill_view, commit_view, without_old, version_reason, IsPlaceOf}
use Rattle.slot_tables.specs.Views.{ArrayView, Nothing, Pending, Newest, kept_at, key_at, with_parts}
use Rattle.slot_tables.specs.Kept.{kepts_of}
use Rattle.slot_tables.proofs.AtOnce.{fresh_whole, fresh_at_once}
use Rattle.slot_tables.proofs.Commits.{place_kept, place_apart}
use Rattle.slot_tables.proofs.Fills.{CanFill, can_fill, fill_slot, fill_gone, as_whole}
use Rattle.slot_tables.proofs.Placing.{placed_slot}
use Rattle.disk_array.specs.Inside.{seen}
use Rattle.disk_array.proofs.Placed.{shown, placed_is, as_put, kind_back}
use Rattle.disk_array.proofs.Ready.{either_way, Keeps, keeps, gone_keeps, still_whole, still_ready, as_many, as_refused}
use Rattle.disk_array.proofs.Refusing.{gone_reported}
use Rattle.disk_array.proofs.array.Array.place_open.Given as given
use Rattle.disk_array.proofs.array.Array.place_open.Goals.{After-of}
use Rattle.disk_array.proofs.array.Array.place_open.Goals as goal

pub put_placed-requires-clause-slot : goal.put_placed-requires-clause-slot
put_placed-requires-clause-slot g c =
    subst (λ (v : ArrayView). IsSlot v.parts.groups c.slot-slot.result) (sym c.self.view_is) (fill_slot c.args.self.now c.slot-slot.result (search rules))

pub invariant_of-self-in-Err : goal.invariant_of-self-in-Err
invariant_of-self-in-Err g c =
    let d = g.D.Drive in
    let now = seen d.units d.lost d.failures c.self.inside in
    let b = view_of d.units d.lost d.failures c.put_placed.new.self in
    let same : Keeps now.parts b = either_way {P = Keeps now.parts b} c.put_placed.result (λ x w. keeps now.parts b w.fares w.rest) (λ q e. gone_keeps now.parts b _ q e) c.put_placed.ensures.ok c.put_placed.ensures.err in (
      as_whole _ _ (ap (λ l. record now { parts = b; log = l }) c.reserve.ensures.items) (still_whole d.units d.lost d.failures c.self.inside c.put_placed.new.self same c.put_placed.ensures.fit c.self.invariant.0),
      c.self.invariant.1,
      (let ready = still_ready d.units d.lost d.failures c.self.inside c.put_placed.new.self c.put_placed.new.unit c.put_placed.new.scratch same c.put_placed.ensures.fit c.self.invariant.2 in
          record { fit = ready.fit; unit = ready.unit; scratch = ready.scratch; places = ready.places; live = ready.live }),
    )

pub returns-in-Err-clause-flat : goal.returns-in-Err-clause-flat
returns-in-Err-clause-flat g c F w shows held =
    let d = g.D.Drive in
    let now = seen d.units d.lost d.failures c.self.inside in
    let b = view_of d.units d.lost d.failures c.put_placed.new.self in
    let s = g.C.Hold.names c.args.claim in
    let x = content_under c.args.kind c.args.payload.now in
    let q = c.in-Err.refusal in
    let gone : FoundGone c.args.self.now.parts b s q =
    subst (λ n. FoundGone c.args.self.now.parts b n q) c.slot-slot.ensures
    (subst (λ (v : ArrayView). FoundGone v.parts b c.slot-slot.result q) c.self.view_is c.in-Err.ensures.err)
    in
    as_refused q (FillPasses F w s) (λ G. FillCase F w s x (Refused q) G) _ (with_parts c.args.self.now b)
    (ap (λ l. record now { parts = b; log = l }) c.reserve.ensures.items ∙ ap (λ (v : ArrayView). with_parts v b) c.self.view_is)
    (fill_gone c.args.self.now b F w s x q (search rules) gone shows held)

pub keep_placed-old-requires-clause-inside : goal.keep_placed-old-requires-clause-inside
keep_placed-old-requires-clause-inside g c =
    let s = c.slot-slot.result in
    let can : CanFill c.args.self.now s = can_fill c.args.self.now s (search rules) in
    let groups : c.self.inside.parts.groups ≡ c.args.self.now.parts.groups = ap (λ (v : ArrayView). v.parts.groups) c.self.view_is in
    placed_slot c.self.inside.parts.groups s (vec_len c.self.inside.places)
    (subst (λ (z : Groups). class_at z s ≢ None) (sym groups) (λ e. let bad = sym can.class ∙ e in absurd (cc))) c.self.invariant.2.places

pub keep_placed-old-requires-clause-free : goal.keep_placed-old-requires-clause-free
keep_placed-old-requires-clause-free g c =
    let can : CanFill c.args.self.now c.slot-slot.result = can_fill c.args.self.now c.slot-slot.result (search rules) in
    ap (λ (v : ArrayView). kept_at v c.slot-slot.result) c.self.view_is ∙ can.free

pub keep_placed-old-requires-clause-newest : goal.keep_placed-old-requires-clause-newest
keep_placed-old-requires-clause-newest g c x is =
    ap (λ (v : ArrayView). get_or v.kept x.place Nothing) c.self.view_is
    ∙ place_kept c.args.self.now c.args.block c.reported-found.ensures.whole x (sym c.reported-found.ensures.value ∙ is)

-- the record, what was written, and what the array shows then
abbrev stamp : (g : given.Over) (c : After-of g) → Record
stamp g c = emitted_by c.args.block (g.C.Hold.names c.args.claim) (next_version (record_at c.args.block (key_at c.args.self.now c.args.block))) 0

abbrev parts : (g : given.Over) (c : After-of g) → PartsView
parts g c = view_of g.D.Drive.units g.D.Drive.lost g.D.Drive.failures c.put_placed.new.self

reported : (g : given.Over) (c : After-of g) → c.in-Some.stamp ≡ stamp g c
reported g c = c.in-Some.ensures.2 ∙ (λ i. emitted_by c.args.block (c.slot-slot.ensures i) (next_version (c.reported-found.ensures.value i)) 0)

none : (g : given.Over) (c : After-of g) → fill_reason c.args.self.now (g.C.Hold.names c.args.claim) ≡ None
none g c = search rules

left : (g : given.Over) (c : After-of g) → version_reason (record_at c.args.block (key_at c.args.self.now c.args.block)) ≡ None
left g c = ap version_reason (sym c.reported-found.ensures.value) ∙ c.in-Some.ensures.0

was : (g : given.Over) (c : After-of g)
    → WasPut c.args.self.now.parts (parts g c) (g.C.Hold.names c.args.claim) (placed_unit (stamp g c) c.args.self.now.parts.groups.payload (content_under c.args.kind c.args.payload.now))
was g c =
    let x = content_under c.args.kind c.args.payload.now in
    subst (λ r. WasPut c.args.self.now.parts (parts g c) (g.C.Hold.names c.args.claim) (placed_unit r c.args.self.now.parts.groups.payload x)) (reported g c)
    (subst (λ n. WasPut c.args.self.now.parts (parts g c) n (placed_unit c.in-Some.stamp c.args.self.now.parts.groups.payload x)) c.slot-slot.ensures
    (subst (λ (v : ArrayView). WasPut v.parts (parts g c) c.slot-slot.result (placed_unit c.in-Some.stamp v.parts.groups.payload x)) c.self.view_is c.in_default-put_placed.ensures.ok))

apart : (g : given.Over) (c : After-of g) (q : Record) → record_at c.args.block (key_at c.args.self.now c.args.block) ≡ Some q → q.place ≡ g.C.Hold.names c.args.claim → ⊥
apart g c = place_apart c.args.self.now (g.C.Hold.names c.args.claim) c.args.block c.reported-found.ensures.whole (can_fill c.args.self.now _ (none g c)).free

shows_then : (g : given.Over) (c : After-of g)
    → shown (parts g c) c.push_reserved.new.self.items (set c.self.inside.keys.items c.args.block c.key.result) (kepts_of c.keep_placed-old.new.places.items)
    ≡ commit_view (fill_view (with_parts c.args.self.now (parts g c)) (g.C.Hold.names c.args.claim) c.args.kind) (g.C.Hold.names c.args.claim) c.args.block
    (record_at c.args.block (key_at c.args.self.now c.args.block)) (stamp g c)
shows_then g c =
    placed_is c.args.self.now (parts g c) (g.C.Hold.names c.args.claim) c.args.block (Pending c.args.kind) (record_at c.args.block (key_at c.args.self.now c.args.block)) (stamp g c) _ _ _
    (apart g c)
    (c.push_reserved.ensures.items ∙ (λ i. (c.reserve.ensures.items ∙ ap (λ (v : ArrayView). v.log) c.self.view_is) i ++ (reported g c i) ∷ []))
    (λ i. set (c.self.view_is i).keys c.args.block ((c.key.ensures.value ∙ ap key_of (reported g c)) i))
    (c.keep_placed-old.ensures.kept
    ∙ (λ i. set (without_old (c.self.view_is i).kept (c.reported-found.ensures.value i)) (c.slot-slot.ensures i) (Newest c.args.block)))

pub invariant_of-self-2 : goal.invariant_of-self-2
invariant_of-self-2 g c =
    let d = g.D.Drive in
    let at = (goal.at.invariant_of-self-2 g c).After-of in
    let now = seen d.units d.lost d.failures c.self.inside in
    let b = view_of d.units d.lost d.failures c.put_placed.new.self in
    let same : Keeps now.parts b = either_way {P = Keeps now.parts b} c.put_placed.result (λ x w. keeps now.parts b w.fares w.rest) (λ q e. gone_keeps now.parts b _ q e) c.put_placed.ensures.ok c.put_placed.ensures.err in (
      as_whole _ _ (shows_then g at)
          (fresh_whole c.args.self.now b (g.C.Hold.names c.args.claim) c.args.block (search rules) (search rules)
          (view_drives d.units d.lost d.failures c.put_placed.new.self c.put_placed.ensures.fit.drives) c.reported-found.ensures.whole
          (content_under c.args.kind c.args.payload.now) (none g at) (left g at) (was g at) c.args.kind),
      c.keep_placed-old.ensures.claims,
      (let ready = still_ready d.units d.lost d.failures c.self.inside c.put_placed.new.self c.put_placed.new.unit c.put_placed.new.scratch same c.put_placed.ensures.fit c.self.invariant.2 in
          record {
            fit = ready.fit;
            unit = ready.unit;
            scratch = ready.scratch;
            places = as_many _ _ _ c.keep_placed-old.ensures.room ready.places;
            live = c.keep_placed-old.ensures.counts;
          }),
    )

pub returns-clause-done : goal.returns-clause-done
returns-clause-done g c =
    let at = (goal.at.returns-clause-done g c).After-of in
    let reported_is : c.of.result ≡ stamp g at = c.of.ensures ∙ reported g at in
    let x = content_under c.args.kind c.args.payload.now in (
      shows_then g at ∙ ap (λ r. commit_view (fill_view (with_parts c.args.self.now (parts g at)) (g.C.Hold.names c.args.claim) c.args.kind) (g.C.Hold.names c.args.claim) c.args.block
          (record_at c.args.block (key_at c.args.self.now c.args.block)) r) (sym reported_is),
      reported_is,
      subst (λ o. IsPlaceOf g.C.Hold.names c.keep_placed-old.result o) c.reported-found.ensures.value c.keep_placed-old.ensures.old,
      subst (λ r. WasPut c.args.self.now.parts (parts g at) (g.C.Hold.names c.args.claim) (placed_unit r c.args.self.now.parts.groups.payload x)) (sym reported_is) (was g at),
    )

pub returns-clause-flat : goal.returns-clause-flat
returns-clause-flat g c F w shows held =
    let d = g.D.Drive in
    let at = (goal.at.returns-clause-flat g c).After-of in
    let s = g.C.Hold.names c.args.claim in
    let x = content_under c.args.kind c.args.payload.now in
    let kind : kind_of x ≡ c.args.kind = kind_back c.args.kind c.args.payload.now in
    let found = record_at c.args.block (key_at c.args.self.now c.args.block) in
    as_put F (Fill w s x) (Filled s) w s c.args.block c.of.result (stamp g at) _
    (commit_view (fill_view (with_parts c.args.self.now (parts g at)) s (kind_of x)) s c.args.block found (stamp g at))
    (c.of.ensures ∙ reported g at)
    (shows_then g at ∙ ap (λ k. commit_view (fill_view (with_parts c.args.self.now (parts g at)) s k) s c.args.block found (stamp g at)) (sym kind))
    (fresh_at_once c.args.self.now (parts g at) s c.args.block (search rules) (search rules)
    (view_drives d.units d.lost d.failures c.put_placed.new.self c.put_placed.ensures.fit.drives) c.reported-found.ensures.whole
    x (none g at) (left g at) (was g at) F w (search rules) c.requires.payload shows held)
