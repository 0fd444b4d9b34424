use Rattle.std.proofs.Common.{rules}
use Rattle.slot_words.proofs.Plays.{halves}
use Rattle.slot_words.proofs.steps.halve.Goals as goal

pub split_seat-requires : goal.split_seat-requires
split_seat-requires c = ((search rules), (search rules), halves c.args.table.now.shared.key _ _ (search rules))
