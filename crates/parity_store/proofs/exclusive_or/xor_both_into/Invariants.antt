use Rattle.std.proofs.Common.{◌≡◌, ◌*◌}
use Rattle.extent_groups.specs.Units.{plus}
use Rattle.parity_store.proofs.Mixed.{mixed}
use Rattle.parity_store.proofs.exclusive_or.xor_both_into.Given as goal

abbrev pub invariant-loop-block : goal.invariant-loop-block
invariant-loop-block l = l.into ≡ mixed (32 * l.block) l.fn.into (plus l.one l.other)

abbrev pub invariant-loop-step : goal.invariant-loop-step
invariant-loop-step l = l.into ≡ mixed (8 * l.step) l.fn.into (plus l.one l.other)

abbrev pub invariant-loop-i : goal.invariant-loop-i
invariant-loop-i l = l.into ≡ mixed l.i l.fn.into (plus l.one l.other)
