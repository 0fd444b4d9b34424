use Rattle.std.proofs.Common.{◌∙◌, ap, subst}
use Rattle.std.proofs.lemmas.Result.{on_ok_weaker}
use Rattle.vault.proofs.Replayed.{kept_or_not, alike_of, found, left, err_at, time_append}
use Rattle.vault.specs.declared.store.Stop.TheVariants.{Killed}
use Rattle.std.proofs.Common.{[], ◌∷◌, ◌++◌}
use Rattle.vault.specs.Images.{with_journal}
use Rattle.vault.specs.Moments.{has_batch}
use Rattle.vault.specs.Replay.{seen_at, leaves_at}
use Rattle.vault.specs.declared.memory.Call.TheVariants.{Append}
use Rattle.vault.proofs.memory.MemVaultVault.append.Goals as goal

pub returns-clause-appended : goal.returns-clause-appended
returns-clause-appended c = λ known. on_ok_weaker c.note.result (λ more. alike_of _ _ (found c.args.self.now.calls.items c.note.new.calls.items (Append c.in_ok-batch.batch) more ∙ ap (λ ws. with_journal (seen_at c.args.self.now.calls.items) ((seen_at c.args.self.now.calls.items).journal ++ ws ∷ [])) c.in_ok-batch.ensures.ok)) c.note.ensures.ok

pub returns-clause-killed : goal.returns-clause-killed
returns-clause-killed c = λ known. on_ok_weaker c.note.result (λ more i now. subst (λ ws. has_batch (seen_at c.args.self.now.calls.items) ws (λ j. leaves_at Killed c.args.self.now.calls.items j) i) c.in_ok-batch.ensures.ok (left Killed c.args.self.now.calls.items c.note.new.calls.items (Append c.in_ok-batch.batch) more i now)) c.note.ensures.ok

pub returns-clause-refused : goal.returns-clause-refused
returns-clause-refused c = λ known refused. let same = err_at _ c.note.result refused c.note.ensures.err in record { finds = ap seen_at same; leaves = λ stop i now. subst (λ l. leaves_at stop l i) same now }

pub returns-clause-time : goal.returns-clause-time
returns-clause-time c = λ known stop. time_append stop c.args.self.now.calls.items c.note.new.calls.items c.in_ok-batch.batch c.args.batch.now c.in_ok-batch.ensures.ok (kept_or_not c.note.result c.args.self.now.calls.items c.note.new.calls.items (Append c.in_ok-batch.batch) c.note.ensures.ok c.note.ensures.err)
