use Rattle.std.proofs.Common.{◌≡◌, ◌++◌, length, arith}
use Rattle.std.proofs.lemmas.List.{length-append}
use Rattle.hex_lanes.proofs.Lanes.{IsHalf}
use Rattle.hex_lanes.proofs.Spelled.{Each1-append}
use Rattle.hex_lanes.proofs.Values.{both_are}
use Rattle.hex_lanes.proofs.decode.join_both.Goals as goal

pub returns : goal.returns
returns c = λ first second.
    let long : length (c.args.first ++ c.args.second) ≡ 32 = omega (arith, length-append c.args.first c.args.second, c.fits-first.0, c.fits-second.0) in
    both_are (c.args.first ++ c.args.second) long (Each1-append IsHalf c.args.first c.args.second first second)
