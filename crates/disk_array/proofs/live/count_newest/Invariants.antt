use Rattle.std.proofs.Common.{◌≡◌}
use Rattle.slot_tables.specs.Kept.{kepts_of}
use Rattle.slot_tables.specs.Counted.{newest_below}
use Rattle.disk_array.proofs.live.count_newest.Given as goal

abbrev pub invariant-loop-index : goal.invariant-loop-index
invariant-loop-index g l = l.count ≡ newest_below (kepts_of l.places) l.group l.index
