use Rattle.std.proofs.Common.{rules}
use Rattle.slot_tables.specs.declared.hand.Hand.TheVariants.{Holds}
use Rattle.flat_machine.specs.Steps.{Claimed}
use Rattle.flat_machine.specs.Cases.{ClaimCase}
use Rattle.slot_tables.proofs.Hands.{claim_case, taken_case, with_hand, as_world}
use Rattle.step_core.proofs.world.World.claim.Goals as goal

pub returns-then-is_free-clause-flat : goal.returns-then-is_free-clause-flat
returns-then-is_free-clause-flat g c F rep =
    let w = c.args.worker in
    let s = c.args.slot in
    as_world (λ G. ClaimCase F w s (Claimed s) G) _ (with_hand c.args.self.now s (Holds w)) (search rules)
    (claim_case c.args.self.now F w s (search rules) (search rules) (search rules) rep)

pub returns-else-is_free-clause-flat : goal.returns-else-is_free-clause-flat
returns-else-is_free-clause-flat g c F rep = (F, taken_case c.args.self.now F c.args.worker c.args.slot (search rules) rep, rep)
