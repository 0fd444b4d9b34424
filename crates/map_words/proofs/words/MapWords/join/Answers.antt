use Rattle.std.proofs.Common.{rules}
use Rattle.map_words.proofs.Plays.{sums, weighs}
use Rattle.map_words.proofs.words.MapWords.join.Goals as goal

pub join_seat-requires : goal.join_seat-requires
join_seat-requires g c = ((search rules), (search rules), (search rules), (search rules), sums c.args.self.now.table.shared.key _ _ _ _)

pub load-requires : goal.load-requires
load-requires g c = ((search rules), (search rules), weighs c.args.self.now.table.shared.key _ _ 0 _)
