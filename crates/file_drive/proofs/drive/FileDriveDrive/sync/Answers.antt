use Rattle.std.proofs.Common.{sym}
use Rattle.file_drive.proofs.Held.{synced}
use Rattle.file_drive.proofs.drive.FileDriveDrive.sync.Goals as goal

pub returns-clause-durable : goal.returns-clause-durable
returns-clause-durable g c =
    synced c.sync.result (g.B.Backing.durable c.sync.new.self) (g.B.Backing.bytes c.args.self.now.backing) c.args.self.now.size c.args.self.now.cache.units
    (sym c.if-is_err.ensures.value) c.sync.ensures.durable (c.args.self.now.held c.if-self.false)
