use Rattle.flat_machine.specs.Cases.{Case}
use Rattle.flat_machine.specs.Flat.{Flat}
use Rattle.flat_machine.specs.Steps.{Make}
use Rattle.slot_tables.specs.Represents.{Represents}
use Rattle.std.proofs.Common.{subst}
use Rattle.step_core.specs.Reported.{flat_answer}
use Rattle.step_core.specs.declared.step.Answer.{Answer}
use Rattle.group_changes.proofs.Applying.{made_as}
use Rattle.group_changes.proofs.apply.make.Goals as goal

pub returns-in-Made : goal.returns-in-Made
returns-in-Made c =
    made_as c.test_number.result c.args.world.now c.make.new.self c.args.class c.args.members.now c.in-Made.number c.args.group c.test_number.ensures
    (subst (λ (a : Answer). (F : Flat) → Represents c.args.world.now F → (G : Flat) × Case F (Make c.args.class c.args.members.now) (flat_answer a) G × Represents c.make.new.self G)
    c.in-Made.is c.in_ok-answer.ensures.ok)
