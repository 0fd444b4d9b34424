use Rattle.std.proofs.Common.{rules}
use Rattle.map_words.proofs.Plays.{halves}
use Rattle.map_words.proofs.words.MapWords.split.Goals as goal

pub split_seat-seat-requires : goal.split_seat-seat-requires
split_seat-seat-requires g c = ((search rules), (search rules), halves c.args.self.now.table.shared.key _ _)
