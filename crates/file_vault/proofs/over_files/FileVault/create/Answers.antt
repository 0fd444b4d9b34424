use Rattle.std.proofs.Common.{arith, refl, sym, []}
use Rattle.std.proofs.lemmas.Bool.{false≢true}
use Rattle.file_vault.specs.Vaults.{plan_of}
use Rattle.file_vault.proofs.Blanks.{blank_attested}
use Rattle.file_vault.proofs.Puts.{sound_seen}
use Rattle.file_vault.proofs.Places.{sound_as}
use Rattle.file_vault.proofs.JournalCalls.{all_durable}
use Rattle.file_vault.proofs.Syncs.{logged_empty}
use Rattle.file_vault.proofs.over_files.FileVault.create.Goals as goal

pub returns-in-Ok-clause-known : goal.returns-in-Ok-clause-known
returns-in-Ok-clause-known g c = λ known. record {
  files_known = c.begin.ensures.stays known;
  batches = λ whole. record { batches = []; sound = sound_as _ _ _ _ _ _ _ _ _ _ (c.in-Ok.ensures.kept known) (sym c.new.ensures.items) refl refl };
  failed = λ broken. absurd (false≢true broken);
}

pub returns-in-Ok-clause-blank : goal.returns-in-Ok-clause-blank
returns-in-Ok-clause-blank g c = λ known. c.in-Ok.ensures.blank known

pub returns-in-Ok-clause-attested : goal.returns-in-Ok-clause-attested
returns-in-Ok-clause-attested g c = λ known x. blank_attested (plan_of c.args.layout) (g.F.Files.seen c.begin.new.files) x (c.in-Ok.ensures.blank known x)

pub returns-in-Ok-clause-empty : goal.returns-in-Ok-clause-empty
returns-in-Ok-clause-empty g c = λ known. sound_seen g.F.Files.seen g.F.Files.may_leave c.begin.new.files [] [] 4096 0 (c.in-Ok.ensures.kept known)

pub returns-in-Ok-clause-durable : goal.returns-in-Ok-clause-durable
returns-in-Ok-clause-durable g c = λ known. all_durable (plan_of c.args.layout) g.F.Files.seen g.F.Files.may_leave c.begin.new.files [] [] 4096 0 (c.in-Ok.ensures.kept known) (omega arith)

pub returns-in-Ok-clause-logged : goal.returns-in-Ok-clause-logged
returns-in-Ok-clause-logged g c = λ known lost.
    logged_empty _ _ lost _ (sound_seen g.F.Files.seen g.F.Files.may_leave c.begin.new.files [] [] 4096 0 (c.in-Ok.ensures.kept known))
    (all_durable (plan_of c.args.layout) g.F.Files.seen g.F.Files.may_leave c.begin.new.files [] [] 4096 0 (c.in-Ok.ensures.kept known) (omega arith)) (c.in-Ok.ensures.units known)
