use Rattle.std.proofs.Common.{sym, subst}
use Rattle.flat_machine.specs.Flat.{IsNewest}
use Rattle.slot_tables.proofs.Newest.{newest_reported}
use Rattle.disk_array.proofs.array.Array.newest.Goals as goal

pub returns-clause-flat : goal.returns-clause-flat
returns-clause-flat g c F shows =
    subst (IsNewest F.emitted c.args.block) (sym c.reported.ensures.value) (newest_reported c.args.self.now F c.args.block shows)
