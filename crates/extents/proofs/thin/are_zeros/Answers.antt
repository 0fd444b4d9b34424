use Rattle.std.proofs.Common.{◌-◌, length, take, drop}
use Rattle.std.proofs.lemmas.Bool.Decides.{Decides-eqb}
use Rattle.std.proofs.lemmas.Slice.Eq.{slice_eq-Decides}
use Rattle.extents.proofs.Placed.{zeros_by_shift}
use Rattle.extents.proofs.thin.are_zeros.Goals as goal

pub returns-then-bytes-eq0 : goal.returns-then-bytes-eq0
returns-then-bytes-eq0 c = λ same.
    let bytes = c.args.bytes.now in
    let before = take (length bytes - 1) bytes in
    let following = take (length bytes - 1) (drop 1 bytes) in
    let decided = slice_eq-Decides Decides-eqb before following c.eq.result c.eq.ensures in
    zeros_by_shift bytes c.if-bytes-eq0.true (decided.0 same)
