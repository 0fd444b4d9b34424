use Rattle.std.proofs.Common.{rules}
use Rattle.slot_words.proofs.Plays.{looks}
use Rattle.slot_words.proofs.words.SlotWords.claim.Goals as goal

pub load-seen-requires : goal.load-seen-requires
load-seen-requires g c = ((search rules), (search rules), looks c.args.self.now.table.shared.key _ _ _ _ (search rules) (search rules))

pub returns-then-seen-eq1-clause-err : goal.returns-then-seen-eq1-clause-err
returns-then-seen-eq1-clause-err g c = search rules

pub returns-then-seen-clause-err : goal.returns-then-seen-clause-err
returns-then-seen-clause-err g c = search rules

pub returns-clause-err : goal.returns-clause-err
returns-clause-err g c = search rules
