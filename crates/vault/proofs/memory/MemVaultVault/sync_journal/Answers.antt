use Rattle.std.proofs.Common.{refl}
use Rattle.std.proofs.lemmas.Result.{on_ok_weaker}
use Rattle.vault.specs.Replay.{seen_at, leaves_at}
use Rattle.vault.proofs.Replayed.{kept_or_not, time_on, found_same, left, at_journal}
use Rattle.vault.specs.declared.memory.Call.TheVariants.{SyncJournal}
use Rattle.vault.proofs.memory.MemVaultVault.sync_journal.Goals as goal

pub returns-clause-seen : goal.returns-clause-seen
returns-clause-seen c = λ known. found_same c.args.self.now.calls.items c.note.new.calls.items (SyncJournal) refl (kept_or_not c.note.result c.args.self.now.calls.items c.note.new.calls.items (SyncJournal) c.note.ensures.ok c.note.ensures.err)

pub returns-clause-durable : goal.returns-clause-durable
returns-clause-durable c = λ known. on_ok_weaker c.note.result (λ more stop i now. at_journal stop (seen_at c.args.self.now.calls.items) (λ j. leaves_at stop c.args.self.now.calls.items j) i (left stop c.args.self.now.calls.items c.note.new.calls.items (SyncJournal) more i now)) c.note.ensures.ok

pub returns-clause-time : goal.returns-clause-time
returns-clause-time c = λ known stop. time_on stop c.args.self.now.calls.items c.note.new.calls.items (SyncJournal) (kept_or_not c.note.result c.args.self.now.calls.items c.note.new.calls.items (SyncJournal) c.note.ensures.ok c.note.ensures.err)
