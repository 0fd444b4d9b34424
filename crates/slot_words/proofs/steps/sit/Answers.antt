use Rattle.slot_words.proofs.Plays.{sits}
use Rattle.slot_words.proofs.steps.sit.Goals as goal

pub load_new_seat-requires : goal.load_new_seat-requires
load_new_seat-requires c = (c.requires, sits c.args.table.now.shared.key _ 0)
