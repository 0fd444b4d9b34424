-- The numbers of the faults, and the fault that a refusal of the array is.
use Rattle.std.specs.Prelude.{ℕ}
use Rattle.array_book.specs.declared.fault.WorkFault.{WorkFault}
use Rattle.array_book.specs.declared.fault.WorkFault.TheVariants.{NoRoom, Core, Memory}
use Rattle.array_book.specs.declared.run.RunFault.{RunFault}
use Rattle.array_book.specs.declared.run.RunFault.TheVariants as run

-- why a call of a worker did nothing
abbrev pub number_of : WorkFault → ℕ
number_of NoRoom = 1
number_of (Core refusal) = 2
number_of Memory = 3

-- why not all workers' work was done
abbrev pub run_number : RunFault → ℕ
run_number run.Memory = 1
run_number (run.Job worker fault) = 2
