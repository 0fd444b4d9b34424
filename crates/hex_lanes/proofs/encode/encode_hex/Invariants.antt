use Rattle.std.proofs.Common.{◌*◌}
use Rattle.hex_lanes.proofs.Encoded.{IsEncoded}
use Rattle.hex_lanes.proofs.encode.encode_hex.Given as goal

abbrev pub invariant-loop-turn : goal.invariant-loop-turn
invariant-loop-turn l = IsEncoded (16 * l.turn) l.bytes l.out

abbrev pub invariant-loop-step : goal.invariant-loop-step
invariant-loop-step l = IsEncoded (8 * l.step) l.bytes l.out

abbrev pub invariant-loop-at : goal.invariant-loop-at
invariant-loop-at l = IsEncoded l.at l.bytes l.out
