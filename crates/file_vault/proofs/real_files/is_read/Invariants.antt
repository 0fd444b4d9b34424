use Rattle.std.proofs.Common.{length, ◌-◌, ◌≤◌}
use Rattle.file_vault.proofs.real_files.is_read.Given as goal

abbrev pub invariant-loop-done : goal.invariant-loop-done
invariant-loop-done l = l.done ≤ length l.out

abbrev pub decreases-loop-done : goal.decreases-loop-done
decreases-loop-done l = length l.initial.out - l.done
