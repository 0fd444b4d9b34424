-- A scan of the headers, and a restart, are the answers to their commands.
use Rattle.std.proofs.Common.{◌≡◌, ◌≢◌, ℕ, List, ◌++◌, codes, decimal, length, Result, Ok, Err, Some, refl, sym, ap, subst}
use Rattle.std.specs.Prelude.{OnOk}
use Rattle.map_join.specs.declared.records.Record.{Record}
use Rattle.map_join.specs.Maps.{IsMapOf, IsListOf}
use Rattle.flat_machine.specs.Flat.{Flat}
use Rattle.flat_machine.specs.Cases.{Leaves}
use Rattle.flat_machine.specs.Restarted.{restarted}
use Rattle.flat_machine.specs.Scans.{ScanAnswer, Reported, NotReported, Restarted, NotRestarted, ScanCase}
use Rattle.header_scan.specs.declared.fault.ScanFault.{ScanFault}
use Rattle.header_scan.specs.declared.fault.ScanFault.TheVariants as fault
use Rattle.step_core.specs.Views.{WorldView}
use Rattle.step_core.specs.Represents.{Represents}
use Rattle.step_core.specs.Claims.{WasRestarted}
use Rattle.script_syntax.specs.Order as o
use Rattle.script_exec.specs.Text.{fault_text, listing}
use Rattle.script_exec.specs.Answers.{with_flat}
use Rattle.script_exec.specs.Carrying.{Carries}
use Rattle.tiered_array.specs.Tiered.{begun}
use Rattle.tiered_array.specs.Matches.{RepresentsTiers}
use Rattle.tiered_array.specs.Scanning.{IsScanFaultOf}
use Rattle.tiered_array.specs.Tiered.{Tiered}
use Rattle.tiered_array.specs.Views.{TiersView}
use Rattle.script_exec.specs.declared.bench.Bench.{Bench}

-- the headers were scanned with this answer, from each state that was represented
abbrev pub Scans : TiersView → ScanAnswer → TiersView → Type 0
Scans t answer u = (T : Tiered) → RepresentsTiers t T → (G : Flat) × ScanCase T.flat answer G × RepresentsTiers u (record T { flat = G })

-- the fault that is reported is that of a slot whose unit is gone
record IsGoneReported (t : TiersView) (found : ScanFault) (u : TiersView) : Type 0 where
  slot : ℕ
  is : found ≡ fault.Gone slot
  scanned : Scans t (NotReported slot) u

gone_reported : (t u : TiersView) (found : ScanFault) (T : Tiered) → found ≢ fault.Memory → IsScanFaultOf t u found → RepresentsTiers t T → IsGoneReported t found u
gone_reported t u fault.Memory T other reported matches = absurd (other refl)
gone_reported t u (fault.Gone slot) T other reported matches = record { slot = slot; is = refl; scanned = reported }
gone_reported t u _ T other reported matches = absurd (reported T matches)

-- a map that was listed
pub listed_map : (before : Bench) (u : TiersView) (keys : ℕ → ℕ) (listed : List Record) (old new : List ℕ) → IsListOf keys listed
    → Scans before.tiers (Reported keys) u → new ≡ old ++ (codes "scan " ++ listing listed)
    → Carries before (record before { tiers = u }) o.Scan old new
listed_map before u keys listed old new list scans out = λ P matches.
    let scanned = scans P.tiers matches.tiers in record {
      text = codes "scan " ++ listing listed;
      next = Some (with_flat P scanned.0);
      answers = record { answer = Reported keys; next = scanned.0; case = scanned.1; reported = (listed, list, refl); state_is = refl };
      matches = record { tiers = scanned.2; maps = matches.maps };
      out = out;
    }

-- a fault that was reported in place of a map
scan_fault : (before : Bench) (u : TiersView) (found : ScanFault) (old new : List ℕ) → found ≢ fault.Memory
    → IsScanFaultOf before.tiers u found → new ≡ old ++ fault_text found
    → Carries before (record before { tiers = u }) o.Scan old new
scan_fault before u found old new other reports out = λ P matches.
    let gone = gone_reported before.tiers u found P.tiers other reports matches.tiers in
    let scanned = gone.scanned P.tiers matches.tiers in record {
      text = fault_text found;
      next = Some (with_flat P scanned.0);
      answers = record { answer = NotReported gone.slot; next = scanned.0; case = scanned.1; reported = ap fault_text gone.is; state_is = refl };
      matches = record { tiers = scanned.2; maps = matches.maps };
      out = out;
    }

pub on_fault : {E : Type 0} (r : Result (Unit {0}) E) (before : Bench) (u : TiersView) (found : ScanFault) (old new : List ℕ)
    → OnOk r (found ≢ fault.Memory) → IsScanFaultOf before.tiers u found
    → OnOk r (new ≡ old ++ fault_text found) → OnOk r (Carries before (record before { tiers = u }) o.Scan old new)
on_fault (Ok x) before u found old new other reports out = scan_fault before u found old new other reports out
on_fault (Err e) before u found old new other reports out = tt

-- a fault that was reported in place of a restart
pub restart_fault : (before : Bench) (u : TiersView) (found : ScanFault) (old new : List ℕ) → found ≢ fault.Memory
    → IsScanFaultOf before.tiers u found → new ≡ old ++ fault_text found
    → Carries before (record before { tiers = u }) o.Restart old new
restart_fault before u found old new other reports out = λ P matches.
    let gone = gone_reported before.tiers u found P.tiers other reports matches.tiers in
    let scanned = gone.scanned P.tiers matches.tiers in record {
      text = fault_text found;
      next = Some (with_flat P scanned.0);
      answers = record { answer = NotRestarted gone.slot; next = scanned.0; case = scanned.1; text_is = ap fault_text gone.is; state_is = refl };
      matches = record { tiers = scanned.2; maps = matches.maps };
      out = out;
    }

-- an array rebuilt after drives failed is the one rebuilt before, but for these drives
leaves_afresh : (F G : Flat) (keys : ℕ → ℕ) (records : List Record) → Leaves F G → Leaves (restarted F keys records) (restarted G keys records)
leaves_afresh F G keys records leaves = record {
  same = ap (λ (x : Flat). restarted x keys records) leaves.same;
  drives = leaves.drives;
}

-- a restart whose answer is appended
pub made_afresh : (before : Bench) (between : TiersView) (after : WorldView) (tiers : TiersView) (keys : ℕ → ℕ) (count : ℕ) (old new : List ℕ)
    → Scans before.tiers (Reported keys) between
    → ((F : Flat) → Represents between.world F → IsMapOf F.emitted keys → WasRestarted F keys after) → count ≡ length after.array.log
    → ((F : Flat) → Represents after F → RepresentsTiers tiers (begun F))
    → new ≡ old ++ (codes "restarted " ++ decimal count)
    → Carries before (record { tiers = tiers; maps = before.maps }) o.Restart old new
made_afresh before between after tiers keys count old new scans makes counted begins out = λ P matches.
    let scanned = scans P.tiers matches.tiers in
    let none = scanned.1.0 in
    let map_of = scanned.1.1 in
    let leaves = scanned.1.2 in
    let made = makes scanned.0 scanned.2.world (subst (λ (rs : List Record). IsMapOf rs keys) (sym (ap (λ (x : Flat). x.emitted) leaves.same)) map_of) in
    let log = after.array.log in
    let next = restarted scanned.0 keys log in record {
      text = codes "restarted " ++ decimal count;
      next = Some (record P { tiers = begun next });
      answers = record {
        answer = Restarted count;
        next = next;
        case = (none, (keys, log, record { map = map_of; list = made.log }, counted, leaves_afresh P.tiers.flat scanned.0 keys log leaves));
        text_is = refl;
        state_is = refl;
      };
      matches = record { tiers = begins next made.matches; maps = matches.maps };
      out = out;
    }
