use Rattle.std.proofs.Common.{rules}
use Rattle.history.proofs.Moves.{lends, checks, returns}
use Rattle.history.proofs.steps.look_in.Goals as goal

pub join_seat-requires : goal.join_seat-requires
join_seat-requires g c = ((search rules), (search rules), (search rules), (search rules), lends _ _ _ _ (search rules))

pub load-requires : goal.load-requires
load-requires g c = ((search rules), (search rules), checks _ _ 0 _ (search rules) (search rules) (search rules))

pub split_seat-requires : goal.split_seat-requires
split_seat-requires g c = ((search rules), (search rules), returns _ _ (search rules) (search rules))
