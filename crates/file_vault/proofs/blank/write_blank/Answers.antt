use Rattle.std.proofs.Common.{◌∙◌, ap, length}
use Rattle.std.proofs.lemmas.List.{length-replicate}
use Rattle.file_vault.specs.Vaults.{plan_of}
use Rattle.file_vault.proofs.Blanks.{blank_more}
use Rattle.file_vault.proofs.blank.write_blank.Goals as goal

pub returns-in-Ok-clause-blank : goal.returns-in-Ok-clause-blank
returns-in-Ok-clause-blank g c = λ known.
    blank_more (plan_of c.args.layout.now) c.args.place c.args.zeros.now c.deref.result.now c.in_ok-offset.offset c.in_ok-offset.ensures.at c.requires
    (ap length c.requires ∙ length-replicate _ _) (c.deref.ensures.value ∙ c.in_ok-offset.ensures.sealed)
    (g.F.Files.seen c.args.files.now) (g.F.Files.seen c.write_at.new.self) (c.in-Ok.ensures.wrote known)
