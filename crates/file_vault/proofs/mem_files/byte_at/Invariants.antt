use Rattle.std.proofs.Common.{◌≡◌, take}
use Rattle.file_vault.specs.Calls.{folder_of, seen_from}
use Rattle.file_vault.proofs.mem_files.byte_at.Given as goal

abbrev pub invariant-loop-call : goal.invariant-loop-call
invariant-loop-call l = l.byte ≡ seen_from (folder_of l.fn.first) (take l.call-index l.fn.calls) l.fn.file l.fn.at
