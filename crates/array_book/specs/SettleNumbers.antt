-- The numbers of the faults.
use Rattle.std.specs.Prelude.{ℕ}
use Rattle.array_book.specs.declared.settle_fault.SettleFault.{SettleFault}
use Rattle.array_book.specs.declared.settle_fault.SettleFault.TheVariants.{Differs, Memory, NotWhole}

abbrev pub number_of : SettleFault → ℕ
number_of (Differs block) = 1
number_of Memory = 2
number_of (NotWhole share) = 3
