use Rattle.std.proofs.Common.{◌∙◌, ap, false, replicate}
use Rattle.file_vault.specs.Folders.{Folder}
use Rattle.file_vault.proofs.Agreed.{stops_table_torn, stops_table_raised, none_marked}
use Rattle.file_vault.proofs.Unstamped.{unstamped_file}
use Rattle.file_vault.proofs.stamped_files.StampedFiles.sync_table.Goals as goal

pub returns-in_err-raise-clause-agree : goal.returns-in_err-raise-clause-agree
returns-in_err-raise-clause-agree g c = λ known agree.
    stops_table_torn g.F.Files.may_leave c.args.self.now.files c.raise.new.files c.args.self.now.generation c.args.next c.args.self.now.current c.args.self.now.raised c.requires agree (c.raise.ensures.leaves known)

pub returns-clause-agree : goal.returns-clause-agree
returns-clause-agree g c = λ known agree.
    stops_table_raised g.F.Files.may_leave c.args.self.now.files c.raise.new.files c.args.self.now.generation c.args.next c.args.self.now.current c.args.self.now.raised c.requires agree (c.raise.ensures.leaves known)
    (replicate 16 false) (none_marked 16) (c.in_ok-raise.ensures.raised known)

pub returns-clause-durable : goal.returns-clause-durable
returns-clause-durable g c = λ known stop h now.
    unstamped_file 16 (g.F.Files.seen c.raise.new.files) (g.F.Files.may_leave c.raise.new.files stop) (c.in_ok-raise.ensures.durable known stop) h now
    ∙ ap (λ (f : Folder). f 16) (c.raise.ensures.seen known)
