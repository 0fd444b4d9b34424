-- Which faults a scan reports of a world with its planner.
use Rattle.flat_machine.specs.Flat.{Flat}
use Rattle.flat_machine.specs.Scans.{NotReported, ScanCase}
use Rattle.header_scan.specs.declared.fault.ScanFault.{ScanFault}
use Rattle.header_scan.specs.declared.fault.ScanFault.TheVariants.{Memory, Gone}
use Rattle.tiered_array.specs.Matches.{RepresentsTiers}
use Rattle.tiered_array.specs.Tiered.{Tiered}
use Rattle.tiered_array.specs.Views.{TiersView}

-- a fault that is reported where a state is represented: out of memory, or that a slot is gone, as the flat machine's scan
-- answers it; no other is
abbrev pub IsScanFaultOf : TiersView → TiersView → ScanFault → Type 0
IsScanFaultOf t u Memory = Unit {0}
IsScanFaultOf t u (Gone s) = (T : Tiered) → RepresentsTiers t T → (G : Flat) × ScanCase T.flat (NotReported s) G × RepresentsTiers u (record T { flat = G })
IsScanFaultOf t u _ = (T : Tiered) → RepresentsTiers t T → ⊥
