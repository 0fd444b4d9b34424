use Rattle.std.proofs.Common.{◌∙◌, ap, arith}
use Rattle.file_vault.specs.Folders.{Folder}
use Rattle.file_vault.proofs.Agreed.{stops_torn, stops_raised, marked_same}
use Rattle.file_vault.proofs.Unstamped.{unstamped_file}
use Rattle.file_vault.proofs.stamped_files.StampedFiles.sync_drive.Goals as goal

pub returns-in_err-raise-clause-agree : goal.returns-in_err-raise-clause-agree
returns-in_err-raise-clause-agree g c = λ known agree.
    stops_torn g.F.Files.may_leave c.args.self.now.files c.raise.new.files c.args.drive c.args.self.now.generation c.args.next c.args.self.now.current c.args.self.now.raised c.requires.0 c.requires.1 agree
    (c.raise.ensures.leaves known)

pub returns-clause-agree : goal.returns-clause-agree
returns-clause-agree g c = λ known agree.
    stops_raised g.F.Files.may_leave c.args.self.now.files c.raise.new.files c.args.drive c.args.self.now.generation c.args.next c.args.self.now.current c.args.self.now.raised c.requires.0 c.requires.1 agree
    (c.raise.ensures.leaves known) (c.in_ok-raise.ensures.raised known)

pub returns-clause-marked : goal.returns-clause-marked
returns-clause-marked g c = (marked_same c.args.self.now.current c.args.drive (omega (arith, c.requires.0)), marked_same c.args.self.now.raised c.args.drive (omega (arith, c.requires.0)))

pub returns-clause-durable : goal.returns-clause-durable
returns-clause-durable g c = λ known stop h now.
    unstamped_file c.args.drive (g.F.Files.seen c.raise.new.files) (g.F.Files.may_leave c.raise.new.files stop) (c.in_ok-raise.ensures.durable known stop) h now
    ∙ ap (λ (f : Folder). f c.args.drive) (c.raise.ensures.seen known)
