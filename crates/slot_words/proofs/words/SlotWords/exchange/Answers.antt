use Rattle.std.proofs.Common.{◌/◌, rules, arith}
use Rattle.slot_words.proofs.Plays.{takes, parts}
use Rattle.slot_words.proofs.words.SlotWords.exchange.Goals as goal

pub compare_exchange-found-requires : goal.compare_exchange-found-requires
compare_exchange-found-requires g c = (
  (search rules),
  (search rules),
  rw c.place_of.ensures
      (takes c.args.self.now.table.shared.key _ _ c.args.slot (c.args.seen / 2) _ _ _ (search rules) (omega arith) (omega arith) (omega arith) (search rules) (search rules) (search rules)),
)

pub split_seat-rest-requires : goal.split_seat-rest-requires
split_seat-rest-requires g c = ((search rules), (search rules), parts c.args.self.now.table.shared.key _ _)
