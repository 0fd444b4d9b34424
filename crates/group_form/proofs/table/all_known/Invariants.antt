use Rattle.std.proofs.Common.{◌≡◌, length}
use Rattle.group_form.proofs.Reading.{AreFirst}
use Rattle.group_form.proofs.table.all_known.Given as goal

-- the first units are known
abbrev pub invariant-loop-index : goal.invariant-loop-index
invariant-loop-index l = record {
  many : length l.known.items ≡ l.index;
  first : AreFirst l.fn.units l.known.items;
}
