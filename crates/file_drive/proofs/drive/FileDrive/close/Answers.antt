use Rattle.file_drive.proofs.Held.{are_held}
use Rattle.file_drive.proofs.drive.FileDrive.close.Goals as goal

pub returns-clause-ok : goal.returns-clause-ok
returns-clause-ok g c = are_held (g.B.Backing.bytes c.args.self.backing) c.args.self.size c.args.self.cache.units (c.args.self.held c.if-self.false)
