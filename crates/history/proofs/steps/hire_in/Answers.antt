use Rattle.std.proofs.Common.{rules}
use Rattle.history.proofs.Moves.{hires}
use Rattle.history.proofs.steps.hire_in.Goals as goal

pub split_seat-requires : goal.split_seat-requires
split_seat-requires g c = ((search rules), (search rules), hires _ _ (search rules) (search rules))
