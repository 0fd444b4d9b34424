use Rattle.std.proofs.Common.{◌≡◌, ◌++◌, take}
use Rattle.vault.specs.Coding.{entries_code, AreSmall}
use Rattle.vault.proofs.batch.put_entries.Given as goal

abbrev pub invariant-loop-entry : goal.invariant-loop-entry
invariant-loop-entry l = record {
  bytes : l.out.items ≡ l.fn.out.items ++ entries_code (take l.entry-index l.entries);
  small : AreSmall (take l.entry-index l.entries);
}
