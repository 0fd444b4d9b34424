use Rattle.map_join.proofs.Placing.{none_set}
use Rattle.map_join.proofs.newest.no_marks.Goals as goal

pub returns : goal.returns
returns c = none_set 128
