use Rattle.slot_tables.proofs.Counts.{zero_at}
use Rattle.disk_array.proofs.live.none_live.Goals as goal

pub returns-clause-none : goal.returns-clause-none
returns-clause-none c = zero_at 512
