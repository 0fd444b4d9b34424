-- The numbers of the faults.
use Rattle.std.specs.Prelude.{ℕ}
use Rattle.header_scan.specs.declared.fault.ScanFault.{ScanFault}
use Rattle.header_scan.specs.declared.fault.ScanFault.TheVariants.{Memory, BadHeader, WrongSlot, Twice, Gone, NoClaim, BadNote}

abbrev pub number_of : ScanFault → ℕ
number_of Memory = 1
number_of (BadHeader slot) = 2
number_of (WrongSlot slot reported) = 3
number_of (Twice block first second) = 4
number_of (Gone slot) = 5
number_of (NoClaim slot) = 6
number_of (BadNote slot) = 7
