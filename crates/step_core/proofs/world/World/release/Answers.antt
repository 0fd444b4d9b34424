use Rattle.std.proofs.Common.{rules}
use Rattle.slot_tables.specs.declared.hand.Hand.TheVariants.{Empty}
use Rattle.flat_machine.specs.Steps.{Released}
use Rattle.flat_machine.specs.Cases.{ReleaseCase}
use Rattle.slot_tables.proofs.Hands.{release_case, with_hand, as_world}
use Rattle.step_core.proofs.world.World.release.Goals as goal

pub returns-then-holds-clause-flat : goal.returns-then-holds-clause-flat
returns-then-holds-clause-flat g c F rep =
    let w = c.args.worker in
    let s = c.args.slot in
    as_world (λ G. ReleaseCase F w s (Released s) G) _ (with_hand c.args.self.now s Empty) (search rules)
    (release_case c.args.self.now F w s (search rules) (search rules) rep)
