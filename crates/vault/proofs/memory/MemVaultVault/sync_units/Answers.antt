use Rattle.std.proofs.Common.{refl}
use Rattle.std.proofs.lemmas.Result.{on_ok_weaker}
use Rattle.vault.specs.Replay.{seen_at, leaves_at}
use Rattle.vault.proofs.Replayed.{kept_or_not, time_on, found_same, left, at_units}
use Rattle.vault.specs.declared.memory.Call.TheVariants.{SyncUnits}
use Rattle.vault.proofs.memory.MemVaultVault.sync_units.Goals as goal

pub returns-clause-seen : goal.returns-clause-seen
returns-clause-seen c = λ known. found_same c.args.self.now.calls.items c.note.new.calls.items (SyncUnits c.args.lost.now) refl (kept_or_not c.note.result c.args.self.now.calls.items c.note.new.calls.items (SyncUnits c.args.lost.now) c.note.ensures.ok c.note.ensures.err)

pub returns-clause-durable : goal.returns-clause-durable
returns-clause-durable c = λ known. on_ok_weaker c.note.result (λ more stop i now. at_units stop c.args.lost.now (seen_at c.args.self.now.calls.items) (λ j. leaves_at stop c.args.self.now.calls.items j) i (left stop c.args.self.now.calls.items c.note.new.calls.items (SyncUnits c.args.lost.now) more i now)) c.note.ensures.ok

pub returns-clause-time : goal.returns-clause-time
returns-clause-time c = λ known stop. time_on stop c.args.self.now.calls.items c.note.new.calls.items (SyncUnits c.args.lost.now) (kept_or_not c.note.result c.args.self.now.calls.items c.note.new.calls.items (SyncUnits c.args.lost.now) c.note.ensures.ok c.note.ensures.err)
