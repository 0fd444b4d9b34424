use Rattle.std.proofs.Common.{◌≡◌, ◌<◌, ◌+◌, ℕ, get_or}
use Rattle.file_vault.specs.Calls.{folder_of, seen_from}
use Rattle.file_vault.proofs.mem_files.read.Given as goal

abbrev pub invariant-loop-index : goal.invariant-loop-index
invariant-loop-index l = (j : ℕ) → j < l.index → get_or l.out j 0 ≡ seen_from (folder_of l.fn.first) l.fn.calls l.fn.file (l.fn.at + j)
