-- The status that the program ends with.
use Rattle.std.specs.Prelude.{ℕ}
use Rattle.script_io.specs.declared.end.End.{End}
use Rattle.script_io.specs.declared.end.End.TheVariants as end

-- 0 for a script that was answered, 2 for a fault in it, 4 for out of memory, 5 for a fault of reading or writing
abbrev pub status_of : End → ℕ
status_of end.Whole = 0
status_of end.Fault = 2
status_of end.Memory = 4
status_of end.ReadFault = 5
status_of end.WriteFault = 5
