use Rattle.history.proofs.Moves.{sits}
use Rattle.history.proofs.steps.sit.Goals as goal

pub load_new_seat-requires : goal.load_new_seat-requires
load_new_seat-requires g c = (c.requires, sits _ 0)
