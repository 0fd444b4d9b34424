use Rattle.std.proofs.Common.{rules}
use Rattle.disk_array.proofs.array.Array.unmake_fault.Goals as goal

pub loop-index-preserved : goal.loop-index-preserved
loop-index-preserved g c = search rules
