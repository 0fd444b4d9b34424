use Rattle.std.proofs.Common.{ap, subst}
use Rattle.std.proofs.lemmas.Result.{on_ok_weaker}
use Rattle.vault.specs.Replay.{seen_at, leaves_at}
use Rattle.vault.proofs.Replayed.{kept_or_not, time_on, alike_of, found, left, err_at, at_clear}
use Rattle.vault.specs.declared.memory.Call.TheVariants.{Clear}
use Rattle.vault.proofs.memory.MemVaultVault.clear.Goals as goal

pub returns-clause-cleared : goal.returns-clause-cleared
returns-clause-cleared c = λ known. on_ok_weaker c.note.result (λ more. alike_of _ _ (found c.args.self.now.calls.items c.note.new.calls.items (Clear) more)) c.note.ensures.ok

pub returns-clause-durable : goal.returns-clause-durable
returns-clause-durable c = λ known. on_ok_weaker c.note.result (λ more stop i now. at_clear stop (seen_at c.args.self.now.calls.items) (λ j. leaves_at stop c.args.self.now.calls.items j) i (left stop c.args.self.now.calls.items c.note.new.calls.items (Clear) more i now)) c.note.ensures.ok

pub returns-clause-refused : goal.returns-clause-refused
returns-clause-refused c = λ known refused. let same = err_at _ c.note.result refused c.note.ensures.err in record { finds = ap seen_at same; leaves = λ stop i now. subst (λ l. leaves_at stop l i) same now }

pub returns-clause-time : goal.returns-clause-time
returns-clause-time c = λ known stop. time_on stop c.args.self.now.calls.items c.note.new.calls.items (Clear) (kept_or_not c.note.result c.args.self.now.calls.items c.note.new.calls.items (Clear) c.note.ensures.ok c.note.ensures.err)
