-- A scan of the world leaves what is kept next to it.
use Rattle.std.proofs.Common.{Result, Ok, Err}
use Rattle.std.specs.Prelude.{IfOk, IfErr}
use Rattle.map_join.specs.Maps.{Entries, at}
use Rattle.flat_machine.specs.Flat.{Flat}
use Rattle.flat_machine.specs.Cases.{Leaves}
use Rattle.flat_machine.specs.Scans.{ScanAnswer, Reported, NotReported, ScanCase}
use Rattle.header_scan.specs.declared.fault.ScanFault.{ScanFault}
use Rattle.header_scan.specs.declared.fault.ScanFault.TheVariants as fault
use Rattle.header_scan.specs.Worlds.{IsReportedOf}
use Rattle.slot_tables.specs.Views.{WorldView}
use Rattle.slot_tables.specs.Represents.{Represents}
use Rattle.tiered_array.specs.Scanning.{IsScanFaultOf}
use Rattle.tiered_array.specs.Matches.{RepresentsTiers}
use Rattle.tiered_array.specs.Tiered.{Tiered}
use Rattle.tiered_array.specs.Views.{TiersView}
use Rattle.tiered_array.proofs.Standing.{matches_left}

-- a scan leaves the state, but for drives that failed
scan_leaves : (F G : Flat) (answer : ScanAnswer) → ScanCase F answer G → Leaves F G
scan_leaves F G (Reported keys) case = case.2
scan_leaves F G (NotReported slot) case = case.leaves

scans_one : (t : TiersView) (v : WorldView) (answer : ScanAnswer) → ((F : Flat) → Represents t.world F → (G : Flat) × ScanCase F answer G × Represents v G)
    → (T : Tiered) → RepresentsTiers t T → (G : Flat) × ScanCase T.flat answer G × RepresentsTiers (record t { world = v }) (record T { flat = G })
scans_one t v answer takes T matches =
    let done = takes T.flat matches.world in
    (done.0, done.1, matches_left t v T done.0 matches done.2 (scan_leaves T.flat done.0 answer done.1))

-- a map that was read
pub scans : {E : Type 0} (t : TiersView) (v : WorldView) (r : Result Entries E)
    → IfOk r (λ m. (F : Flat) → Represents t.world F → (G : Flat) × ScanCase F (Reported (at m)) G × Represents v G)
    → IfOk r (λ m. (T : Tiered) → RepresentsTiers t T → (G : Flat) × ScanCase T.flat (Reported (at m)) G × RepresentsTiers (record t { world = v }) (record T { flat = G }))
scans t v (Ok m) takes = scans_one t v (Reported (at m)) takes
scans t v (Err e) takes = tt

-- a fault
pub faults : {X : Type 0} (t : TiersView) (v : WorldView) (r : Result X ScanFault) → IfErr r (IsReportedOf t.world v) → IfErr r (IsScanFaultOf t (record t { world = v }))
faults t v (Ok m) reported = tt
faults t v (Err fault.Memory) reported = tt
faults t v (Err (fault.Gone s)) reported = scans_one t v (NotReported s) reported
faults t v (Err (fault.BadHeader s)) reported = λ T matches. reported T.flat matches.world
faults t v (Err (fault.WrongSlot s other)) reported = λ T matches. reported T.flat matches.world
faults t v (Err (fault.Twice block first second)) reported = λ T matches. reported T.flat matches.world
faults t v (Err (fault.NoClaim s)) reported = λ T matches. reported T.flat matches.world
faults t v (Err (fault.BadNote s)) reported = λ T matches. reported T.flat matches.world
