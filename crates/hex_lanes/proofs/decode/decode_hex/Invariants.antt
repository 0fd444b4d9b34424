use Rattle.std.proofs.Common.{◌*◌}
use Rattle.hex_lanes.proofs.Done.{IsDone, IsAhead}
use Rattle.hex_lanes.proofs.decode.decode_hex.Given as goal

abbrev pub invariant-loop-turn : goal.invariant-loop-turn
invariant-loop-turn l = IsAhead (32 * l.turn) l.greatest l.digits l.out

abbrev pub invariant-loop-step : goal.invariant-loop-step
invariant-loop-step l = IsDone (8 * l.step) l.digits l.out
