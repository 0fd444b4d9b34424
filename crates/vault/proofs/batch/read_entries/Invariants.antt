use Rattle.std.proofs.Common.{◌≡◌}
use Rattle.vault.specs.Coding.{entries_at, AreGood}
use Rattle.vault.proofs.batch.read_entries.Given as goal

abbrev pub invariant-loop-index : goal.invariant-loop-index
invariant-loop-index l = record {
  entries : l.entries.items ≡ entries_at l.index l.fn.table;
  good : AreGood l.fn.units l.entries.items;
}
