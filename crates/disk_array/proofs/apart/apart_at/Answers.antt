use Rattle.std.proofs.Common.{rules}
use Rattle.slot_tables.proofs.Places.{nothing_there}
use Rattle.disk_array.proofs.apart.apart_at.Goals as goal

pub returns-clause-free : goal.returns-clause-free
returns-clause-free g c = nothing_there c.args.places.now.items c.args.slot c.index_mut.result.now (search rules) (search rules) c.in-Free.is
