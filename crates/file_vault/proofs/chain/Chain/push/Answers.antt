use Rattle.std.proofs.Common.{arith}
use Rattle.file_vault.proofs.Chained.{chain_more}
use Rattle.file_vault.proofs.chain.Chain.push.Goals as goal

pub returns-clause-more : goal.returns-clause-more
returns-clause-more c = λ f chain next. chain_more f c.args.self.now.places.items c.args.self.now.end c.args.length chain next c.push.new.self.items _ c.in_ok-push.ensures.items (omega arith)
