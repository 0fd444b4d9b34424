use Rattle.std.proofs.Common.{◌≡◌}
use Rattle.extents.specs.Owners.{all_free}
use Rattle.extents.proofs.table.ExtentTable.new.Given as goal

abbrev pub invariant-loop-drive : goal.invariant-loop-drive
invariant-loop-drive l = l.table ≡ all_free l._drive l.shape.extents
