use Rattle.std.proofs.Common.{◌≡◌, inl, inr, refl, sym, ◌∙◌, ap, subst, None, ◌⊎◌}
use Rattle.std.specs.Prelude.{IfErr, OnOk}
use Rattle.std.specs.Vec.{with_items}
use Rattle.extent_groups.specs.Cells.{cells}
use Rattle.extent_groups.specs.Missing.{missing_of, IsGone}
use Rattle.extent_groups.specs.Stores.{unit_of, AreSound, KeepsUnits}
use Rattle.extent_groups.specs.declared.plan.PlanRefusal.TheVariants as why
use Rattle.unit_store.specs.Notes.{refused_as}
use Rattle.unit_store.specs.Slots.{ReportsGone}
use Rattle.unit_store.proofs.Reading.{lent_back, fares_back, reported_back, gone_of, written_back}
use Rattle.unit_store.proofs.parts.Parts.plan.Given as given
use Rattle.unit_store.proofs.parts.Parts.plan.Goals as goal
use Rattle.unit_store.proofs.parts.Parts.plan.Goals.{After-plan_slot-planned}

-- what the reads left
units : (g : given.Over) (c : After-plan_slot-planned g) → AreSound c.args.self.now.groups (cells g.D.Drive.units g.D.Drive.lost c.args.self.now.drives.items)
    → KeepsUnits c.args.self.now.groups (cells g.D.Drive.units g.D.Drive.lost c.args.self.now.drives.items) (cells g.D.Drive.units g.D.Drive.lost (with_items c.args.self.now.drives c.plan_slot-planned.new.drives).items)
units g c =
    reported_back (λ a b n. AreSound c.args.self.now.groups (cells g.D.Drive.units g.D.Drive.lost a) → KeepsUnits c.args.self.now.groups (cells g.D.Drive.units g.D.Drive.lost a) (cells g.D.Drive.units g.D.Drive.lost b))
    c.args.self.now.drives c.deref_mut-drives.result.now c.plan_slot-planned.new.drives 0 0 c.deref_mut-drives.ensures.value c.plan_slot-planned.ensures.touched.many refl c.plan_slot-planned.ensures.units

pub returns-in-Ok-clause-units : goal.returns-in-Ok-clause-units
returns-in-Ok-clause-units g c = units g (goal.at.returns-in-Ok-clause-units g c).After-plan_slot-planned

pub returns-in-Err-clause-units : goal.returns-in-Err-clause-units
returns-in-Err-clause-units g c = units g (goal.at.returns-in-Err-clause-units g c).After-plan_slot-planned

pub returns-in-Ok-clause-fares : goal.returns-in-Ok-clause-fares
returns-in-Ok-clause-fares g c = fares_back c.args.self.now.drives c.deref_mut-drives.result.now c.plan_slot-planned.new.drives c.deref_mut-drives.ensures.value c.plan_slot-planned.ensures.touched

pub returns-in-Err-clause-fares : goal.returns-in-Err-clause-fares
returns-in-Err-clause-fares g c = fares_back c.args.self.now.drives c.deref_mut-drives.result.now c.plan_slot-planned.new.drives c.deref_mut-drives.ensures.value c.plan_slot-planned.ensures.touched

pub returns-in-Err-clause-err : goal.returns-in-Err-clause-err
returns-in-Err-clause-err g c =
    let back = written_back c.args.self.now.drives c.deref_mut-drives.result.now c.plan_slot-planned.new.drives c.deref_mut-drives.ensures.value c.plan_slot-planned.ensures.touched.many in
    elim (subst (λ r. IfErr r (λ e. ((e ≡ why.Memory) × (c.plan_slot-planned.new.drives ≡ c.deref_mut-drives.result.now))
    ⊎ ((e ≡ why.Gone c.args.slot) × (unit_of c.args.self.now.groups (cells g.D.Drive.units g.D.Drive.lost c.plan_slot-planned.new.drives) c.args.slot ≡ None)))) c.in-Err.is c.plan_slot-planned.ensures.err) [
      | inl memory ↦ inl (c.refused.ensures ∙ ap refused_as memory.0, back ∙ memory.1 ∙ c.deref_mut-drives.ensures.value)
      | inr gone ↦ inr (subst (ReportsGone g.D.Drive.units g.D.Drive.lost (lent_back c.args.self.now c.plan_slot-planned.new.drives) c.args.slot) (sym (c.refused.ensures ∙ ap refused_as gone.0))
          (gone_of g.D.Drive.units g.D.Drive.lost (lent_back c.args.self.now c.plan_slot-planned.new.drives) c.plan_slot-planned.new.drives c.args.slot back c.requires.slot c.requires.fit.groups c.plan_slot-planned.ensures.drives gone.1))
    ]

pub returns-in-Ok-clause-there : goal.returns-in-Ok-clause-there
returns-in-Ok-clause-there g c =
    let back = written_back c.args.self.now.drives c.deref_mut-drives.result.now c.plan_slot-planned.new.drives c.deref_mut-drives.ensures.value c.plan_slot-planned.ensures.touched.many in
    subst (λ xs. IsGone c.args.self.now.groups (missing_of g.D.Drive.lost xs) c.args.slot → ⊥) (sym back)
    (subst (λ r. OnOk r (IsGone c.args.self.now.groups (missing_of g.D.Drive.lost c.plan_slot-planned.new.drives) c.args.slot → ⊥)) c.in-Ok.is c.plan_slot-planned.ensures.there)

sound : (g : given.Over) (c : After-plan_slot-planned g) → AreSound c.args.self.now.groups (cells g.D.Drive.units g.D.Drive.lost c.args.self.now.drives.items)
    → AreSound c.args.self.now.groups (cells g.D.Drive.units g.D.Drive.lost (with_items c.args.self.now.drives c.plan_slot-planned.new.drives).items)
sound g c =
    reported_back (λ a b n. AreSound c.args.self.now.groups (cells g.D.Drive.units g.D.Drive.lost a) → AreSound c.args.self.now.groups (cells g.D.Drive.units g.D.Drive.lost b))
    c.args.self.now.drives c.deref_mut-drives.result.now c.plan_slot-planned.new.drives 0 0 c.deref_mut-drives.ensures.value c.plan_slot-planned.ensures.touched.many refl c.plan_slot-planned.ensures.sound

pub returns-in-Ok-clause-sound : goal.returns-in-Ok-clause-sound
returns-in-Ok-clause-sound g c = sound g (goal.at.returns-in-Ok-clause-sound g c).After-plan_slot-planned

pub returns-in-Err-clause-sound : goal.returns-in-Err-clause-sound
returns-in-Err-clause-sound g c = sound g (goal.at.returns-in-Err-clause-sound g c).After-plan_slot-planned
