use Rattle.std.proofs.Common.{◌≡◌, ◌⊎◌, inl, inr, refl, sym, ap, ◌∙◌, subst, map, ℕ, Bool, List, IfOk, IfErr, OnOk}
use Rattle.std.proofs.lemmas.Result.{IfErr-weaker}
use Rattle.extents.specs.Failures.{Failures}
use Rattle.extents.specs.Owners.{Owners}
use Rattle.extent_groups.specs.Cells.{Cells}
use Rattle.extent_groups.specs.Groups.{Groups}
use Rattle.extent_groups.specs.Missing.{IsGone}
use Rattle.extent_groups.specs.PlanLists.{listed, parity_listed}
use Rattle.flat_machine.specs.declared.refusal.Refusal.TheVariants as refusal
use Rattle.unit_store.specs.declared.parts.Parts.{Parts}
use Rattle.unit_store.specs.Losses.{KeepsTables}
use Rattle.unit_store.specs.Notes.{IsSlotPlan}
use Rattle.unit_store.specs.Slots.{ReportsGone}
use Rattle.unit_store.specs.Views.{DriveView, PartsView, view_of, drive_view, FoundGone, Loses}
use Rattle.unit_store.proofs.Calls.{loses_view, found_gone}
use Rattle.unit_store.proofs.Views.{view_cells, view_lost}
use Rattle.slot_tables.specs.Views.{ArrayView, with_parts}
use Rattle.disk_array.specs.Inside.{seen}
use Rattle.disk_array.proofs.Ready.{loses_keeps, still_whole, parts_ready}
use Rattle.disk_array.proofs.array.Array.plan.Goals as goal

-- parts as they are seen
abbrev as_view : Groups → Owners → List DriveView → PartsView
as_view groups owners drives = record { groups = groups; owners = owners; drives = drives }

-- parts with the same tables and drives are seen alike
same_view : {D : Type 0} (units : D → List (List ℕ)) (lost : D → Bool) (failures : D → Failures) (p q : Parts D) → KeepsTables p q → q.drives.items ≡ p.drives.items
    → view_of units lost failures q ≡ view_of units lost failures p
same_view units lost failures p q tables drives =
    ap (λ (g : Groups). as_view g q.extents (map (drive_view units lost failures) q.drives.items)) tables.groups
    ∙ ap (λ (o : Owners). as_view p.groups o (map (drive_view units lost failures) q.drives.items)) tables.extents
    ∙ ap (λ l. as_view p.groups p.extents (map (drive_view units lost failures) l)) drives

pub invariant_of-self : goal.invariant_of-self
invariant_of-self g c =
    let d = g.D.Drive in
    let a = view_of d.units d.lost d.failures c.self.inside.parts in
    let b = view_of d.units d.lost d.failures c.plan.new.self in
    let e = c.plan.ensures in
    let loses : Loses a b = loses_view d.units d.lost d.failures c.self.inside.parts c.plan.new.self e.only.tables e.fares e.units e.sound in (
      still_whole d.units d.lost d.failures c.self.inside c.plan.new.self (loses_keeps a b loses) e.fit c.self.invariant.0,
      c.self.invariant.1,
      parts_ready d.units c.self.inside c.plan.new.self e.only.tables.groups e.fit c.self.invariant.2,
    )

pub returns-clause-ok : goal.returns-clause-ok
returns-clause-ok g c =
    let d = g.D.Drive in
    let q = c.plan.new.self in
    subst (λ (x : Cells). IfOk c.plan.result (λ plan. IsSlotPlan q.groups x c.args.slot c.args.unit.now (listed plan.writes.items) (parity_listed plan.parity)))
    (sym (view_cells d.units d.lost d.failures q)) c.plan.ensures.ok

pub returns-clause-there : goal.returns-clause-there
returns-clause-there g c =
    let d = g.D.Drive in
    let q = c.plan.new.self in
    subst (λ missing. OnOk c.plan.result (IsGone q.groups missing c.args.slot → ⊥)) (sym (view_lost d.units d.lost d.failures q)) c.plan.ensures.there

pub returns-clause-err : goal.returns-clause-err
returns-clause-err g c =
    let d = g.D.Drive in
    let p = c.self.inside.parts in
    let q = c.plan.new.self in
    let now = seen d.units d.lost d.failures c.self.inside in
    let b = view_of d.units d.lost d.failures q in
    let e = c.plan.ensures in
    subst (λ (v : ArrayView). IfErr c.plan.result (λ why. ((why ≡ refusal.Memory) × (record now { parts = b } ≡ v)) ⊎ FoundGone v.parts b c.args.slot why)) c.self.view_is
    (IfErr-weaker c.plan.result (λ why. ((why ≡ refusal.Memory) × (q.drives.items ≡ p.drives.items)) ⊎ ReportsGone d.units d.lost q c.args.slot why)
    (λ why. ((why ≡ refusal.Memory) × (record now { parts = b } ≡ now)) ⊎ FoundGone now.parts b c.args.slot why)
    (λ why reported. elim reported [
      | inl none ↦ inl (
        none.0,
        ap (λ (v : PartsView). record now { parts = v }) (same_view d.units d.lost d.failures p q e.only.tables none.1),
      )
      | inr gone ↦ inr (found_gone d.units d.lost d.failures p q c.args.slot why (loses_view d.units d.lost d.failures p q e.only.tables e.fares e.units e.sound) gone)
    ]) e.err)

pub returns-clause-loses : goal.returns-clause-loses
returns-clause-loses g c =
    let d = g.D.Drive in
    let now = seen d.units d.lost d.failures c.self.inside in
    let b = view_of d.units d.lost d.failures c.plan.new.self in
    let e = c.plan.ensures in
    subst (λ (v : ArrayView). (record now { parts = b } ≡ with_parts v b) × Loses v.parts b) c.self.view_is
    (refl, loses_view d.units d.lost d.failures c.self.inside.parts c.plan.new.self e.only.tables e.fares e.units e.sound)
