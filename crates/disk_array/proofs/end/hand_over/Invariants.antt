use Rattle.std.proofs.Common.{vec_len}
use Rattle.disk_array.proofs.end.hand_over.Given as goal

abbrev pub decreases-loop-place : goal.decreases-loop-place
decreases-loop-place g l = vec_len l.places
