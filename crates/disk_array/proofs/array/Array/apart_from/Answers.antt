use Rattle.std.proofs.Common.{rules}
use Rattle.slot_tables.proofs.Kepts.{unkept}
use Rattle.disk_array.proofs.array.Array.apart_from.Goals as goal

pub returns-clause-flat : goal.returns-clause-flat
returns-clause-flat g c F shows = unkept c.args.self.now F (g.C.Hold.names c.args.claim.now) (search rules) shows
