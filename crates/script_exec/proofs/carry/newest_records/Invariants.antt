use Rattle.slot_tables.specs.Views.{key_at}
use Rattle.script_exec.proofs.Newest.{AreListed}
use Rattle.script_exec.proofs.carry.newest_records.Given as goal

abbrev pub invariant-loop-block : goal.invariant-loop-block
invariant-loop-block g l = AreListed (key_at l.array) l.block l.records.items
