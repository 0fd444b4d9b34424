use Rattle.std.proofs.Common.{subst}
use Rattle.flat_machine.specs.Cases.{Case}
use Rattle.flat_machine.specs.Flat.{Flat}
use Rattle.flat_machine.specs.Steps.{Unmake}
use Rattle.slot_tables.specs.Represents.{Represents}
use Rattle.step_core.specs.Reported.{flat_answer}
use Rattle.step_core.specs.declared.step.Answer.{Answer}
use Rattle.group_changes.proofs.Applying.{dissolved_as}
use Rattle.group_changes.proofs.apply.dissolve.Goals as goal

pub returns-in-Unmade : goal.returns-in-Unmade
returns-in-Unmade c =
    dissolved_as c.args.world.now c.claim_first.new.world c.unmake.new.self 0 c.args.group c.in-Unmade.field-0 c.claim_first.ensures
    (subst (λ (a : Answer). (F : Flat) → Represents c.claim_first.new.world F → (G : Flat) × Case F (Unmake 0 c.args.group) (flat_answer a) G × Represents c.unmake.new.self G)
    c.in-Unmade.is c.in_ok-answer.ensures.ok)
