-- Which faults a scan reports of a world.
use Rattle.flat_machine.specs.Flat.{Flat}
use Rattle.flat_machine.specs.Scans.{NotReported, ScanCase}
use Rattle.slot_tables.specs.Views.{WorldView}
use Rattle.slot_tables.specs.Represents.{Represents}
use Rattle.header_scan.specs.declared.fault.ScanFault.{ScanFault}
use Rattle.header_scan.specs.declared.fault.ScanFault.TheVariants.{Memory, BadHeader, WrongSlot, Twice, Gone, NoClaim, BadNote}

-- the world represents no state
abbrev pub MatchesForNone : WorldView → Type 0
MatchesForNone v = (F : Flat) → Represents v F → ⊥

-- a fault that is reported of a world which represents a flat state: out of memory, or that a slot is gone, as the flat
-- machine's scan answers it; no other is
abbrev pub IsReportedOf : WorldView → WorldView → ScanFault → Type 0
IsReportedOf v w Memory = Unit {0}
IsReportedOf v w (Gone s) = (F : Flat) → Represents v F → (G : Flat) × ScanCase F (NotReported s) G × Represents w G
IsReportedOf v w (BadHeader s) = MatchesForNone v
IsReportedOf v w (WrongSlot s reported) = MatchesForNone v
IsReportedOf v w (Twice block first second) = MatchesForNone v
IsReportedOf v w (NoClaim s) = MatchesForNone v
IsReportedOf v w (BadNote s) = MatchesForNone v
