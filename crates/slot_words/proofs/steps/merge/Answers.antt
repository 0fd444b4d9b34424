use Rattle.std.proofs.Common.{rules}
use Rattle.slot_words.proofs.Plays.{glues}
use Rattle.slot_words.proofs.steps.merge.Goals as goal

pub join_seat-requires : goal.join_seat-requires
join_seat-requires c = ((search rules), (search rules), (search rules), c.requires.room, glues c.args.table.now.shared.key c.args.seat.now.id c.args.other.id c.args.seat.now.me.0 c.args.other.me.0)
