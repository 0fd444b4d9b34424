-- What each command answers, and the state after it.
use Rattle.std.specs.Prelude.{◌≡◌, ℕ, nat_le, List, [], ◌∷◌, ◌++◌, codes, decimal, Option, Some, None}
use Rattle.extents.specs.Failures.{no_failures}
use Rattle.map_join.specs.declared.records.Record.{Record}
use Rattle.map_join.specs.Record.{record_at}
use Rattle.map_join.specs.Maps.{IsMapOf, IsListOf, IsDifference}
use Rattle.extent_groups.specs.Groups.{Groups}
use Rattle.flat_machine.specs.Groups.{IsEmpty}
use Rattle.flat_machine.specs.Flat.{Flat, Payload, Trim, new_flat, put}
use Rattle.flat_machine.specs.Steps.{FlatStep, FlatAnswer}
use Rattle.flat_machine.specs.Steps as s
use Rattle.flat_machine.specs.Cases.{Case}
use Rattle.flat_machine.specs.Scans.{ScanAnswer, Reported, NotReported, RestartAnswer, Restarted, NotRestarted, ScanCase, RestartCase}
use Rattle.header_scan.specs.declared.fault.ScanFault.TheVariants.{Gone}
use Rattle.extent_groups.specs.declared.class.Member.{Member}
use Rattle.std.specs.Prelude.{map}
use Rattle.tiered_array.specs.Tiered.{Tiered, begun}
use Rattle.tiered_array.specs.Steps.{TierStep, TierCase, CommitNoted}
use Rattle.tiered_array.specs.Steps as tier
use Rattle.tiered_array.specs.declared.outcome.Outcome.{Outcome}
use Rattle.tiered_array.specs.declared.regrouped.Regrouped.{Regrouped}
use Rattle.tiered_array.specs.Regrouping.{BalanceCase, RebuildCase}
use Rattle.script_syntax.specs.Order.{Order}
use Rattle.script_syntax.specs.Order as o
use Rattle.script_exec.specs.State.{Position, State, nothing_taken}
use Rattle.script_exec.specs.Text.{answer_text, asked_version, outcome_text, regrouped_text, difference_text, fault_text, listing, record_text}
use Rattle.script_syntax.specs.declared.command.Named.{Named}

-- a position with its flat state replaced
abbrev pub with_flat : Position → Flat → Position
with_flat P next = record P { tiers = record P.tiers { flat = next } }

-- a step of the flat machine, its answer and the state after it; the maps are as they were
pub record Steps (P : Position) (step : FlatStep) (text : List ℕ) (t : State) : Type 0 where
  pub answer : FlatAnswer
  pub next : Flat
  pub case : Case P.tiers.flat step answer next
  pub text_is : text ≡ answer_text (asked_version step) answer
  pub state_is : t ≡ Some (with_flat P next)

-- a commit; if it is of a write, the write is noted in the order of last writes
pub record AnswersCommit (P : Position) (worker slot block : ℕ) (text : List ℕ) (t : State) : Type 0 where
  pub answer : FlatAnswer
  pub next : Tiered
  pub case : CommitNoted P.tiers worker slot block answer next
  pub text_is : text ≡ answer_text (asked_version (s.Commit worker slot block)) answer
  pub state_is : t ≡ Some (record P { tiers = next })

-- a step by a plan, its outcome, and the state after it
pub record TierSteps (P : Position) (step : TierStep) (text : List ℕ) (t : State) : Type 0 where
  pub outcome : Outcome
  pub next : Tiered
  pub case : TierCase P.tiers step outcome next
  pub text_is : text ≡ outcome_text outcome
  pub state_is : t ≡ Some (record P { tiers = next })

-- a shift by a plan, with an outcome and a flat state that the given relation allows; the maps are as they were
pub record Regroups (P : Position) (comes : Regrouped → Flat → Type 0) (text : List ℕ) (t : State) : Type 0 where
  pub outcome : Regrouped
  pub next : Flat
  pub case : comes outcome next
  pub text_is : text ≡ regrouped_text outcome
  pub state_is : t ≡ Some (with_flat P next)

-- the newest record of each block among some records, in the blocks' order
pub record ShowsMap (records : List Record) (text : List ℕ) : Type 0 where
  pub keys : ℕ → ℕ
  pub listed : List Record
  pub map_of : IsMapOf records keys
  pub list_of : IsListOf keys listed
  pub text_is : text ≡ codes "map " ++ listing listed

-- the emitted records, in order
abbrev pub ShowsLog : Flat → List ℕ → Type 0
ShowsLog F text = text ≡ codes "log " ++ listing F.emitted

-- a position with the records of one map replaced
abbrev pub with_taken : Position → ℕ → List Record → Position
with_taken P map records = record P { taken = put P.taken map records }

-- the map takes one record more, and its record of that block is the answer
pub record Takes (P : Position) (map : ℕ) (r : Record) (text : List ℕ) (t : State) : Type 0 where
  pub keys : ℕ → ℕ
  pub newest : Record
  pub map_of : IsMapOf (P.taken map ++ r ∷ []) keys
  pub newest_is : record_at r.block (keys r.block) ≡ Some newest
  pub text_is : text ≡ codes "took " ++ record_text newest
  pub state_is : t ≡ Some (with_taken P map (P.taken map ++ r ∷ []))

-- the first map takes all records of the second
pub record Merges (P : Position) (into from : ℕ) (text : List ℕ) (t : State) : Type 0 where
  pub text_is : text ≡ codes "merged"
  pub state_is : t ≡ Some (with_taken P into (P.taken into ++ P.taken from))

-- the lowest block of which two lists of records have different newest ones
pub record AnswersCompare (left right : List Record) (text : List ℕ) : Type 0 where
  pub left_keys : ℕ → ℕ
  pub right_keys : ℕ → ℕ
  pub left_map : IsMapOf left left_keys
  pub right_map : IsMapOf right right_keys
  pub lowest : Option ℕ
  pub differs : IsDifference left_keys right_keys lowest
  pub text_is : text ≡ difference_text lowest

-- the answer to a scan: the map's records in the blocks' order, or the slot whose unit is gone
abbrev pub ReportsScan : ScanAnswer → List ℕ → Type 0
ReportsScan (Reported keys) text = (listed : List Record) × IsListOf keys listed × (text ≡ codes "scan " ++ listing listed)
ReportsScan (NotReported slot) text = text ≡ fault_text (Gone slot)

-- the headers are scanned, and the maps are as they were
pub record Scans (P : Position) (text : List ℕ) (t : State) : Type 0 where
  pub answer : ScanAnswer
  pub next : Flat
  pub case : ScanCase P.tiers.flat answer next
  pub reported : ReportsScan answer text
  pub state_is : t ≡ Some (with_flat P next)

-- the answer to a restart: how many blocks there are, or the slot whose unit is gone
abbrev pub restart_text : RestartAnswer → List ℕ
restart_text (Restarted count) = codes "restarted " ++ decimal count
restart_text (NotRestarted slot) = fault_text (Gone slot)

-- a restart starts the order of last writes and the write log over; a failed one leaves them
abbrev pub tiers_following : Tiered → RestartAnswer → Flat → Tiered
tiers_following T (Restarted count) next = begun next
tiers_following T (NotRestarted slot) next = record T { flat = next }

-- the array is rebuilt from what its drives hold, and the maps are as they were
pub record Restarts (P : Position) (text : List ℕ) (t : State) : Type 0 where
  pub answer : RestartAnswer
  pub next : Flat
  pub case : RestartCase P.tiers.flat answer next
  pub text_is : text ≡ restart_text answer
  pub state_is : t ≡ Some (record P { tiers = tiers_following P.tiers answer next })

-- groups of an array of these sizes, none of which is made
pub record AreNoGroups (groups : Groups) (extents segments payload blocks : ℕ) : Type 0 where
  pub of_extents : groups.extents ≡ extents
  pub of_segments : groups.segments ≡ segments
  pub of_payload : groups.payload ≡ payload
  pub of_blocks : groups.blocks ≡ blocks
  pub empty : IsEmpty groups

-- a new array: none of its drives is lost, none has failed, and all are steady
pub record Begins (drives extents segments payload blocks : ℕ) (text : List ℕ) (t : State) : Type 0 where
  pub groups : Groups
  pub none : AreNoGroups groups extents segments payload blocks
  pub text_is : text ≡ codes "array"
  pub state_is : t ≡ Some (record { tiers = begun (new_flat groups drives (nat_le drives) (λ _. no_failures)); taken = nothing_taken })

-- the members that a command names
abbrev pub members_named : List Named → List Member
members_named members = map (λ m. record { drive = m.drive; extent = m.extent }) members

-- what a command answers in a state, and the state after it
abbrev pub Answers : State → Order → List ℕ → State → Type 0
Answers None (o.Array drives extents segments payload blocks) text t = Begins drives extents segments payload blocks text t
Answers None _ text t = ⊥
Answers (Some P) (o.Array drives extents segments payload blocks) text t = ⊥
Answers (Some P) (o.Make class members) text t = Steps P (s.Make class (members_named members)) text t
Answers (Some P) (o.Unmake worker group) text t = Steps P (s.Unmake worker group) text t
Answers (Some P) (o.Claim worker slot) text t = Steps P (s.Claim worker slot) text t
Answers (Some P) (o.Release worker slot) text t = Steps P (s.Release worker slot) text t
Answers (Some P) (o.Fill worker slot payload) text t = Steps P (s.Fill worker slot (Payload payload)) text t
Answers (Some P) (o.Copy worker slot block) text t = Steps P (s.Copy worker slot block) text t
Answers (Some P) (o.Commit worker slot block) text t = AnswersCommit P worker slot block text t
Answers (Some P) (o.Discard worker slot) text t = Steps P (s.Discard worker slot) text t
Answers (Some P) (o.Lose drive) text t = Steps P (s.Lose drive) text t
Answers (Some P) (o.Read block) text t = Steps P (s.Read block) text t
Answers (Some P) (o.At r) text t = Steps P (s.ReadAt r) text t
Answers (Some P) (o.Take map r) text t = Takes P map r text t
Answers (Some P) (o.Merge into from) text t = Merges P into from text t
Answers (Some P) (o.Same left right) text t = AnswersCompare (P.taken left) (P.taken right) text × (t ≡ Some P)
Answers (Some P) (o.Show map) text t = ShowsMap (P.taken map) text × (t ≡ Some P)
Answers (Some P) o.Map text t = ShowsMap P.tiers.flat.emitted text × (t ≡ Some P)
Answers (Some P) o.Log text t = ShowsLog P.tiers.flat text × (t ≡ Some P)
Answers (Some P) o.Scan text t = Scans P text t
Answers (Some P) o.Restart text t = Restarts P text t
Answers (Some P) (o.Write worker block payload) text t = TierSteps P (tier.Write worker block (Payload payload)) text t
Answers (Some P) (o.Trim worker block) text t = TierSteps P (tier.Write worker block Trim) text t
Answers (Some P) (o.Demote worker) text t = TierSteps P (tier.Demote worker) text t
Answers (Some P) (o.Plug worker) text t = TierSteps P (tier.Plug worker) text t
Answers (Some P) (o.Clean worker) text t = TierSteps P (tier.Clean worker) text t
Answers (Some P) o.Add text t = Steps P s.AddDrive text t
Answers (Some P) o.Balance text t = Regroups P (BalanceCase P.tiers.flat) text t
Answers (Some P) (o.Rebuild drive) text t = Regroups P (RebuildCase P.tiers.flat drive) text t
