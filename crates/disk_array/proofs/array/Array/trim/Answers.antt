use Rattle.std.proofs.Common.{◌≡◌, ◌∙◌, ap, refl, sym, subst, rules}
use Rattle.std.specs.Vec.{with_items}
use Rattle.extents.specs.declared.header.Kind.TheVariants as kind
use Rattle.flat_machine.specs.Flat.{Worker, Trim, waiting_unit}
use Rattle.flat_machine.specs.Steps.{Filled, Refused}
use Rattle.flat_machine.specs.Cases.{FillCase, FillPasses}
use Rattle.unit_store.specs.Slots.{IsSlot}
use Rattle.unit_store.specs.Views.{view_of, FoundGone, WasPut}
use Rattle.unit_store.proofs.Views.{view_drives}
use Rattle.slot_tables.specs.Changes.{fill_view}
use Rattle.slot_tables.specs.Views.{ArrayView, IsWhole, Pending, with_parts}
use Rattle.slot_tables.proofs.Fills.{fill_slot, fill_case, fill_gone, fill_refused, fill_whole, as_whole, as_shown}
use Rattle.disk_array.proofs.Ready.{either_way, Keeps, keeps, gone_keeps, still_ready, still_matches, slot_ready, as_refused}
use Rattle.disk_array.proofs.Refusing.{gone_reported, unfilled_reported}
use Rattle.disk_array.proofs.array.Array.trim.Goals as goal

pub returns-in-Some-clause-flat : goal.returns-in-Some-clause-flat
returns-in-Some-clause-flat g c F w shows held =
    fill_refused c.args.self.now F w (g.C.Hold.names c.args.claim) Trim c.in-Some.refusal (search rules) shows held

pub put_trim-requires-clause-slot : goal.put_trim-requires-clause-slot
put_trim-requires-clause-slot g c =
    subst (λ (v : ArrayView). IsSlot v.parts.groups c.slot-slot.result) (sym c.self.view_is) (fill_slot c.args.self.now c.slot-slot.result (search rules))

pub invariant_of-self : goal.invariant_of-self
invariant_of-self g c =
    let d = g.D.Drive in
    let a = view_of d.units d.lost d.failures c.self.inside.parts in
    let b = view_of d.units d.lost d.failures c.put_trim.new.self in
    let same : Keeps a b = either_way {P = Keeps a b} c.put_trim.result (λ x w. keeps a b w.fares w.rest) (λ q e. gone_keeps a b _ q e) c.put_trim.ensures.ok c.put_trim.ensures.err in
    still_matches d.units d.lost d.failures c.self.inside c.put_trim.new.self _ _ same c.put_trim.ensures.fit c.self.invariant

pub returns-in-Err-clause-flat : goal.returns-in-Err-clause-flat
returns-in-Err-clause-flat g c F w shows held =
    let d = g.D.Drive in
    let b = view_of d.units d.lost d.failures c.put_trim.new.self in
    let s = g.C.Hold.names c.args.claim in
    let q = c.in-Err.refusal in
    let gone : FoundGone c.args.self.now.parts b s q =
    subst (λ n. FoundGone c.args.self.now.parts b n q) c.slot-slot.ensures
    (subst (λ (v : ArrayView). FoundGone v.parts b c.slot-slot.result q) c.self.view_is c.in-Err.ensures.err)
    in
    as_refused q (FillPasses F w s) (λ G. FillCase F w s Trim (Refused q) G) _ (with_parts c.args.self.now b) (ap (λ (v : ArrayView). with_parts v b) c.self.view_is)
    (fill_gone c.args.self.now b F w s Trim q (search rules) gone shows held)

pub invariant_of-self-2 : goal.invariant_of-self-2
invariant_of-self-2 g c =
    let d = g.D.Drive in
    let a = c.self.inside in
    let p = c.put_trim.new.self in
    let b = view_of d.units d.lost d.failures p in
    let s = c.slot-slot.result in
    let same : Keeps (view_of d.units d.lost d.failures a.parts) b = either_way {P = Keeps (view_of d.units d.lost d.failures a.parts) b} c.put_trim.result (λ x w. keeps _ b w.fares w.rest) (λ q e. gone_keeps _ b _ q e) c.put_trim.ensures.ok c.put_trim.ensures.err in
    let ready = still_ready d.units d.lost d.failures a p c.put_trim.new.unit c.put_trim.new.scratch same c.put_trim.ensures.fit c.self.invariant.2 in
    let was : WasPut c.args.self.now.parts b s (waiting_unit c.args.self.now.parts.groups.payload Trim) = search rules in (
      as_whole _ (fill_view (with_parts c.args.self.now b) s kind.Trim) (search rules)
          (fill_whole c.args.self.now b s (waiting_unit c.args.self.now.parts.groups.payload Trim) (search rules) (search rules) was (view_drives d.units d.lost d.failures p c.put_trim.ensures.fit.drives) kind.Trim (subst IsWhole c.self.view_is c.self.invariant.0)),
      c.put_in.ensures.claims,
      slot_ready d.units (record a { parts = p; unit = with_items a.unit c.put_trim.new.unit; scratch = with_items a.scratch c.put_trim.new.scratch }) c.put_in.new.places s (Pending kind.Trim) c.put_in.ensures.room
          (search rules) c.self.invariant.0.room.kept (search rules) (search rules) refl ready,
    )

pub returns-clause-flat : goal.returns-clause-flat
returns-clause-flat g c F w shows held =
    let d = g.D.Drive in
    let b = view_of d.units d.lost d.failures c.put_trim.new.self in
    let s = c.of.result in
    let is : s ≡ g.C.Hold.names c.args.claim = c.of.ensures ∙ c.slot-slot.ensures in
    as_shown (λ G. FillCase F w s Trim (Filled s) G) _ (fill_view (with_parts c.args.self.now b) s kind.Trim) (search rules)
    (fill_case c.args.self.now b F w s Trim (search rules) (search rules) (search rules) (search rules) (subst IsWhole c.self.view_is c.self.invariant.0) shows
    (ap (λ n. F.held n (Worker w)) is ∙ held))

pub returns-clause-ticket : goal.returns-clause-ticket
returns-clause-ticket g c = search rules

pub returns-in-Some-clause-memory : goal.returns-in-Some-clause-memory
returns-in-Some-clause-memory g c = unfilled_reported c.args.self.now (g.C.Hold.names c.args.claim) c.in-Some.refusal (search rules)

pub returns-in-Err-clause-memory : goal.returns-in-Err-clause-memory
returns-in-Err-clause-memory g c = gone_reported _ _ _ c.in-Err.refusal c.in-Err.ensures.err
