use Rattle.std.proofs.Common.{◌∙◌}
use Rattle.file_vault.specs.Vaults.{plan_of}
use Rattle.file_vault.proofs.JournalCalls.{counted}
use Rattle.file_vault.proofs.over_files.FileVaultVault.batches.Goals as goal

pub returns-clause-count : goal.returns-clause-count
returns-clause-count g c = λ known.
    let some = known.batches c.if-self.false in
    c.len.ensures ∙ c.args.self.now.places.ok.0
    ∙ counted (plan_of c.args.self.now.layout) g.F.Files.seen g.F.Files.may_leave c.args.self.now.files c.args.self.now.places.items some.batches c.args.self.now.end c.args.self.now.durable some.sound
