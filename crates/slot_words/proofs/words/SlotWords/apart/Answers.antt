use Rattle.std.proofs.Common.{rules}
use Rattle.slot_words.proofs.Plays.{differs}
use Rattle.slot_words.proofs.words.SlotWords.apart.Goals as goal

pub load-requires : goal.load-requires
load-requires g c = ((search rules), (search rules), differs c.args.self.now.table.shared.key _ _ 0 _)

pub returns-clause-differ : goal.returns-clause-differ
returns-clause-differ g c = search rules
