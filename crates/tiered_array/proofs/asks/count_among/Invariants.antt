use Rattle.slot_tables.specs.Views.{key_at}
use Rattle.tiered_array.proofs.Counts.{IsCounted}
use Rattle.tiered_array.proofs.asks.count_among.Given as goal

abbrev pub invariant-loop-index : goal.invariant-loop-index
invariant-loop-index g l = IsCounted (key_at l.array) l.group l.slots l.index l.count
