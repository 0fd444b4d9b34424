use Rattle.std.proofs.Common.{◌≡◌, ◌≤◌, ℕ, take}
use Rattle.file_vault.specs.Calls.{folder_of, seen_from}
use Rattle.file_vault.proofs.mem_files.end_of.Given as goal

abbrev pub invariant-loop-call : goal.invariant-loop-call
invariant-loop-call l = (k : ℕ) → l.end ≤ k → seen_from (folder_of l.fn.first) (take l.call-index l.fn.calls) l.fn.file k ≡ 0
