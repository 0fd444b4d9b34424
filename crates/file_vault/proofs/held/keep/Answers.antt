use Rattle.vault.specs.declared.store.Stop.{Stop}
use Rattle.file_vault.specs.declared.twin.Twin.TheVariants.{First, Second}
use Rattle.file_vault.proofs.Shown.{even_lead}
use Rattle.file_vault.proofs.held.keep.Goals as goal

pub returns-then-first-2-clause-time : goal.returns-then-first-2-clause-time
returns-then-first-2-clause-time g c = λ known even stop. c.go_alone.ensures.time known (λ (at : Stop) h now. even_lead First c.args.count h (even at h now)) stop

pub returns-then-second-2-clause-time : goal.returns-then-second-2-clause-time
returns-then-second-2-clause-time g c = λ known even stop. c.go_alone-then-second-2.ensures.time known (λ (at : Stop) h now. even_lead Second c.args.count h (even at h now)) stop
