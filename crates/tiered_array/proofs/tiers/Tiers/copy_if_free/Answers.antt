use Rattle.std.proofs.Common.{rules}
use Rattle.tiered_array.specs.Placing.{Again}
use Rattle.tiered_array.proofs.Standing.{puts_nowhere}
use Rattle.tiered_array.proofs.tiers.Tiers.copy_if_free.Goals as goal

pub returns-then-not-is_free-clause-ok : goal.returns-then-not-is_free-clause-ok
returns-then-not-is_free-clause-ok g c w = puts_nowhere c.args.self.now w c.args.slot c.args.block Again (search rules)
