use Rattle.std.proofs.Common.{rules, refl, ◌∙◌, ap, subst}
use Rattle.std.proofs.lemmas.Result.{on_ok_weaker}
use Rattle.vault.proofs.Replayed.{kept_or_not, time_on, alike_of, found, found_torn, left}
use Rattle.vault.specs.declared.store.Stop.TheVariants.{Killed}
use Rattle.vault.specs.Images.{with_write}
use Rattle.vault.specs.Moments.{written_at}
use Rattle.vault.specs.Replay.{seen_at, leaves_at}
use Rattle.vault.specs.declared.memory.Call.TheVariants.{Unit as UnitCall}
use Rattle.vault.proofs.memory.MemVaultVault.write_unit.Goals as goal

pub returns-clause-written : goal.returns-clause-written
returns-clause-written c = λ known. on_ok_weaker c.note.result (λ more. alike_of _ _ (found c.args.self.now.calls.items c.note.new.calls.items (UnitCall c.args.place c.in_ok-unit.unit) more ∙ ap (λ u. with_write (seen_at c.args.self.now.calls.items) c.args.place u) (search rules))) c.note.ensures.ok

pub returns-clause-torn : goal.returns-clause-torn
returns-clause-torn c = λ known. found_torn c.args.self.now.calls.items c.note.new.calls.items c.args.place _ (UnitCall c.args.place c.in_ok-unit.unit) refl (kept_or_not c.note.result c.args.self.now.calls.items c.note.new.calls.items (UnitCall c.args.place c.in_ok-unit.unit) c.note.ensures.ok c.note.ensures.err)

pub returns-clause-killed : goal.returns-clause-killed
returns-clause-killed c = λ known. on_ok_weaker c.note.result (λ more i now. subst (λ u. written_at c.args.place u (λ j. leaves_at Killed c.args.self.now.calls.items j) i) (search rules) (left Killed c.args.self.now.calls.items c.note.new.calls.items (UnitCall c.args.place c.in_ok-unit.unit) more i now)) c.note.ensures.ok

pub returns-clause-time : goal.returns-clause-time
returns-clause-time c = λ known stop. time_on stop c.args.self.now.calls.items c.note.new.calls.items (UnitCall c.args.place c.in_ok-unit.unit) (kept_or_not c.note.result c.args.self.now.calls.items c.note.new.calls.items (UnitCall c.args.place c.in_ok-unit.unit) c.note.ensures.ok c.note.ensures.err)
