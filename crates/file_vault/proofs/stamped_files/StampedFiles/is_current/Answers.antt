use Rattle.std.proofs.Common.{sym, ap}
use Rattle.std.proofs.lemmas.Option.{slice_get_past}
use Rattle.file_vault.specs.Generations.{is_some_true}
use Rattle.file_vault.proofs.Agreed.{stops_current}
use Rattle.file_vault.proofs.stamped_files.StampedFiles.is_current.Goals as goal

pub returns-in-Some-clause-lasts : goal.returns-in-Some-clause-lasts
returns-in-Some-clause-lasts g c = λ known agree.
    stops_current g.F.Files.may_leave c.args.self.now.files c.args.self.now.generation c.args.self.now.current c.args.self.now.raised agree

pub returns-in-None-clause-marked : goal.returns-in-None-clause-marked
returns-in-None-clause-marked g c = sym (ap is_some_true (slice_get_past c.args.self.now.current c.args.drive c.in-None.ensures.lookup.3))

pub returns-in-None-clause-lasts : goal.returns-in-None-clause-lasts
returns-in-None-clause-lasts g c = λ known agree.
    stops_current g.F.Files.may_leave c.args.self.now.files c.args.self.now.generation c.args.self.now.current c.args.self.now.raised agree
