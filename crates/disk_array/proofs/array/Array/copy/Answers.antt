use Rattle.std.proofs.Common.{◌≡◌, ◌≢◌, vec_len, None, ◌∙◌, ap, refl, sym, subst, rules}
use Rattle.std.specs.Vec.{with_items}
use Rattle.map_join.specs.declared.records.Record.{Record}
use Rattle.map_join.specs.Record.{record_at}
use Rattle.flat_machine.specs.Flat.{Worker}
use Rattle.flat_machine.specs.Steps.{Copied, Refused}
use Rattle.flat_machine.specs.Cases.{CopyCase, CopyPasses}
use Rattle.extent_groups.specs.Groups.{Groups}
use Rattle.flat_machine.specs.Groups.{class_at}
use Rattle.slot_tables.proofs.Placing.{placed_slot}
use Rattle.unit_store.specs.Slots.{IsSlot}
use Rattle.unit_store.specs.Views.{view_of, WasCopied, WasNotCarried}
use Rattle.unit_store.proofs.Views.{view_drives}
use Rattle.slot_tables.specs.Changes.{copy_view}
use Rattle.slot_tables.specs.Views.{ArrayView, Moving, Nothing, kept_at, key_at, with_parts}
use Rattle.slot_tables.proofs.Fills.{as_whole, as_shown}
use Rattle.slot_tables.proofs.Finds.{read_slot}
use Rattle.slot_tables.proofs.Copies.{CanCopy, can_copy, copy_slot, copy_case, copy_gone, copy_refused, copy_whole}
use Rattle.slot_tables.specs.Counted.{is_newest}
use Rattle.disk_array.specs.Inside.{seen}
use Rattle.disk_array.proofs.Ready.{either_way, Keeps, keeps, uncarried_keeps, still_ready, still_matches, slot_ready, as_refused}
use Rattle.disk_array.proofs.Refusing.{uncarried_reported, uncopied_reported}
use Rattle.disk_array.proofs.array.Array.copy.Goals as goal

pub returns-in-Err-clause-flat : goal.returns-in-Err-clause-flat
returns-in-Err-clause-flat g c F w shows held =
    copy_refused c.args.self.now F w (g.C.Hold.names c.args.claim) c.args.block c.in-Err.refusal (search rules) shows held

-- the record that is copied is the newest of the block, and nothing speaks against its copy
pub copy-requires-clause-from : goal.copy-requires-clause-from
copy-requires-clause-from g c =
    subst (λ (v : ArrayView). IsSlot v.parts.groups c.in-Ok.source.place) (sym c.self.view_is)
    (read_slot c.args.self.now c.args.block c.in-Ok.source c.reported.ensures.whole (sym c.reported.ensures.value ∙ c.in-Ok.ensures.ok.1))

pub copy-requires-clause-to : goal.copy-requires-clause-to
copy-requires-clause-to g c =
    subst (λ (v : ArrayView). IsSlot v.parts.groups c.slot-slot.result) (sym c.self.view_is)
    (copy_slot c.args.self.now c.slot-slot.result c.in-Ok.source (search rules))

pub invariant_of-self : goal.invariant_of-self
invariant_of-self g c =
    let d = g.D.Drive in
    let a = view_of d.units d.lost d.failures c.self.inside.parts in
    let b = view_of d.units d.lost d.failures c.copy.new.self in
    let same : Keeps a b = either_way {P = Keeps a b} c.copy.result (λ x w. keeps a b w.fares w.rest) (λ q e. uncarried_keeps a b _ _ q e) c.copy.ensures.ok c.copy.ensures.err in
    still_matches d.units d.lost d.failures c.self.inside c.copy.new.self _ _ same c.copy.ensures.fit c.self.invariant

pub returns-in-Err-copy-clause-flat : goal.returns-in-Err-copy-clause-flat
returns-in-Err-copy-clause-flat g c F w shows held =
    let d = g.D.Drive in
    let b = view_of d.units d.lost d.failures c.copy.new.self in
    let s = g.C.Hold.names c.args.claim in
    let q = c.in-Err-copy.refusal in
    let missed : WasNotCarried c.args.self.now.parts b c.in-Ok.source.place s q =
    subst (λ n. WasNotCarried c.args.self.now.parts b c.in-Ok.source.place n q) c.slot-slot.ensures
    (subst (λ (v : ArrayView). WasNotCarried v.parts b c.in-Ok.source.place c.slot-slot.result q) c.self.view_is c.in-Err-copy.ensures.err)
    in
    as_refused q ((r : Record) × CopyPasses F w s c.args.block r) (λ G. CopyCase F w s c.args.block (Refused q) G) _ (with_parts c.args.self.now b) (ap (λ (v : ArrayView). with_parts v b) c.self.view_is)
    (copy_gone c.args.self.now b F w s c.args.block c.in-Ok.source q (sym c.reported.ensures.value ∙ c.in-Ok.ensures.ok.1) (search rules) missed shows held)

pub put_in-requires-clause-inside : goal.put_in-requires-clause-inside
put_in-requires-clause-inside g c =
    let s = c.slot-slot.result in
    let can : CanCopy c.args.self.now s c.in-Ok.source = can_copy c.args.self.now s c.in-Ok.source (search rules) in
    let groups : c.self.inside.parts.groups ≡ c.args.self.now.parts.groups = ap (λ (v : ArrayView). v.parts.groups) c.self.view_is in
    placed_slot c.self.inside.parts.groups s (vec_len c.self.inside.places) (subst (λ (z : Groups). class_at z s ≢ None) (sym groups) can.class) c.self.invariant.2.places

pub put_in-requires-clause-free : goal.put_in-requires-clause-free
put_in-requires-clause-free g c =
    let s = c.slot-slot.result in
    let can : CanCopy c.args.self.now s c.in-Ok.source = can_copy c.args.self.now s c.in-Ok.source (search rules) in
    ap (λ (v : ArrayView). kept_at v s) c.self.view_is ∙ can.free

pub invariant_of-self-2 : goal.invariant_of-self-2
invariant_of-self-2 g c =
    let d = g.D.Drive in
    let a = c.self.inside in
    let p = c.copy.new.self in
    let b = view_of d.units d.lost d.failures p in
    let s = c.slot-slot.result in
    let k = c.in-Ok-copy.kind in
    let can : CanCopy c.args.self.now s c.in-Ok.source = can_copy c.args.self.now s c.in-Ok.source (search rules) in
    let free : kept_at (seen d.units d.lost d.failures a) s ≡ Nothing = ap (λ (v : ArrayView). kept_at v s) c.self.view_is ∙ can.free in
    let same : Keeps (view_of d.units d.lost d.failures a.parts) b = either_way {P = Keeps (view_of d.units d.lost d.failures a.parts) b} c.copy.result (λ x w. keeps _ b w.fares w.rest) (λ q e. uncarried_keeps _ b _ _ q e) c.copy.ensures.ok c.copy.ensures.err in
    let ready = still_ready d.units d.lost d.failures a p c.copy.new.unit c.copy.new.scratch same c.copy.ensures.fit c.self.invariant.2 in
    let was : WasCopied c.args.self.now.parts b c.in-Ok.source.place s k =
    subst (λ (v : ArrayView). WasCopied v.parts b c.in-Ok.source.place s k) c.self.view_is c.in-Ok-copy.ensures.ok
    in (
      as_whole _ (copy_view (with_parts c.args.self.now b) s c.in-Ok.source k) (search rules)
          (copy_whole c.args.self.now b s c.in-Ok.source k (search rules) was (search rules) (view_drives d.units d.lost d.failures p c.copy.ensures.fit.drives) c.reported.ensures.whole),
      c.put_in.ensures.claims,
      slot_ready d.units (record a { parts = p; unit = with_items a.unit c.copy.new.unit; scratch = with_items a.scratch c.copy.new.scratch }) c.put_in.new.places s (Moving c.in-Ok.source k) c.put_in.ensures.room
          c.put_in.ensures.kept c.self.invariant.0.room.kept (search rules) (ap is_newest free) refl ready,
    )

pub returns-clause-flat : goal.returns-clause-flat
returns-clause-flat g c F w shows held =
    let d = g.D.Drive in
    let b = view_of d.units d.lost d.failures c.copy.new.self in
    let s = c.of.result in
    let is : s ≡ g.C.Hold.names c.args.claim = c.of.ensures ∙ c.slot-slot.ensures in
    let r = c.in-Ok.source in
    let k = c.in-Ok-copy.kind in
    let was : WasCopied c.args.self.now.parts b r.place s k =
    subst (λ n. WasCopied c.args.self.now.parts b r.place n k) (sym c.of.ensures) (subst (λ (v : ArrayView). WasCopied v.parts b r.place c.slot-slot.result k) c.self.view_is c.in-Ok-copy.ensures.ok)
    in
    as_shown (λ G. CopyCase F w s c.args.block (Copied s) G) _ (copy_view (with_parts c.args.self.now b) s r k) (search rules)
    (copy_case c.args.self.now b F w s c.args.block r k (search rules) (search rules) (sym c.reported.ensures.value ∙ c.in-Ok.ensures.ok.1) was (search rules)
    c.reported.ensures.whole shows (ap (λ n. F.held n (Worker w)) is ∙ held))

pub returns-clause-ticket : goal.returns-clause-ticket
returns-clause-ticket g c = search rules

pub returns-in-Err-clause-memory : goal.returns-in-Err-clause-memory
returns-in-Err-clause-memory g c =
    uncopied_reported c.args.self.now (g.C.Hold.names c.args.claim) (record_at c.args.block (key_at c.args.self.now c.args.block)) c.in-Err.refusal (search rules)

pub returns-in-Err-copy-clause-memory : goal.returns-in-Err-copy-clause-memory
returns-in-Err-copy-clause-memory g c = uncarried_reported _ _ _ _ c.in-Err-copy.refusal c.in-Err-copy.ensures.err
