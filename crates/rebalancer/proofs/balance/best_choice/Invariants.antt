use Rattle.std.proofs.Common.{◌+◌, ◌*◌, ◌<◌}
use Rattle.rebalancer.specs.Choosing.{MayBeChoice, IsBestOf}
use Rattle.rebalancer.proofs.balance.best_choice.Given as goal

abbrev pub invariant-loop-from : goal.invariant-loop-from
invariant-loop-from l = (MayBeChoice l.extents l.groups l.lost l.best) × (IsBestOf l.extents l.groups l.lost (16 * l.from) l.best)

abbrev pub invariant-loop-to : goal.invariant-loop-to
invariant-loop-to l = (l.from < 16) × (MayBeChoice l.extents l.groups l.lost l.best) × (IsBestOf l.extents l.groups l.lost (16 * l.from + l.to) l.best)
