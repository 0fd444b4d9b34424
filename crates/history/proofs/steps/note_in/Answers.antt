use Rattle.std.proofs.Common.{rules}
use Rattle.history.proofs.Moves.{lends, appends, returns}
use Rattle.history.proofs.steps.note_in.Goals as goal

pub join_seat-requires : goal.join_seat-requires
join_seat-requires g c = ((search rules), (search rules), (search rules), (search rules), lends _ _ _ _ (search rules))

pub load-requires : goal.load-requires
load-requires g c = (
  (search rules),
  (search rules),
  rw c.requires.what (appends _ _ 0 _ _ (search rules) (search rules) (search rules)),
)

pub split_seat-requires : goal.split_seat-requires
split_seat-requires g c = ((search rules), (search rules), returns _ _ (search rules) (search rules))
