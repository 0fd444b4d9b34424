-- What a call of a worker added to the history, and how it planned a move. A plan was made under the lock; of the state then only
-- the lock's invariant is known.
use Rattle.std.specs.Prelude.{◌≡◌, ◌⊎◌, ℕ, ◌<◌, List, Option, Some, None, MatchOption, Result, Ok, Err}
use Rattle.map_join.specs.declared.records.Record.{Record}
use Rattle.map_join.specs.Record.{key_of}
use Rattle.map_words.specs.declared.view.View.{View}
use Rattle.flat_machine.specs.declared.refusal.Refusal.{Refusal}
use Rattle.flat_machine.specs.declared.refusal.Refusal.TheVariants as refusal
use Rattle.flat_machine.specs.Flat.{Flat}
use Rattle.slot_tables.specs.Represents.{ShowsArray}
use Rattle.step_core.specs.Placing.{Put, Fresh, Again}
use Rattle.step_core.specs.Reported.{Lesson}
use Rattle.history.specs.Entries.{Carried, Extends}
use Rattle.array_book.specs.Acts.{Act, Learns, IsCourse, placed_act, unplaced_act, committed_act, refused_commit, discarded_act, undiscarded_act, refused_read}
use Rattle.array_book.specs.declared.fault.WorkFault.{WorkFault}
use Rattle.array_book.specs.declared.fault.WorkFault.TheVariants as fault
use Rattle.array_book.specs.declared.plan.Plan.{Plan}
use Rattle.array_book.specs.declared.worker.Migration.{Migration}
use Rattle.array_book.specs.declared.worker.Migration.TheVariants.{Moved, Outrun, Idle, NoRoom}
use Rattle.array_book.specs.Kept.{KeptView, IsKept}
use Rattle.array_book.specs.Planned.{IsPlanned, IsDone, IsNext}
use Rattle.array_book.specs.Takes.{HasAsked, Learnt}

-- the hand noted this act; up to it the history is a run
pub record Noted (v : Carried Act) (act : Act) (w : Carried Act) : Type 0 where
  pub extends : Extends v act w
  pub course : IsCourse w.seen

-- a commit of the slot for the block, as this record; after it the block's old place was released, if it had one
pub record HasCommitted (v : Carried Act) (slot block : ℕ) (r : Record) (w : Carried Act) : Type 0 where
  pub old : Option ℕ
  pub noted : Noted v (committed_act slot block r old) w

-- the ticket of the slot was given up, or there was none
abbrev pub GaveUp : Carried Act → ℕ → Carried Act → Type 0
GaveUp v slot w = Noted v (discarded_act slot) w ⊎ ((q : Refusal) × Noted v (undiscarded_act slot q) w)

-- the commit of what was put into a slot was refused; or that was a fresh content, and none waited there: then nothing is noted
abbrev pub WasRefused : Carried Act → Put → ℕ → ℕ → Refusal → Carried Act → Type 0
WasRefused v (Fresh x) slot block q w = Noted v (refused_commit slot block q) w ⊎ ((w ≡ v) × (q ≡ refusal.NoTicket))
WasRefused v Again slot block q w = Noted v (refused_commit slot block q) w

-- the commit was refused; then the ticket was given up
pub record HasGivenUp (v : Carried Act) (what : Put) (slot block : ℕ) (q : Refusal) (w : Carried Act) : Type 0 where
  pub between : Carried Act
  pub refused : WasRefused v what slot block q between
  pub given_up : GaveUp between slot w

-- this was put into a slot, and then that very slot was committed for the block, as this record
pub record HasPlaced (v : Carried Act) (what : Put) (slot block : ℕ) (r : Record) (w : Carried Act) : Type 0 where
  pub between : Carried Act
  pub placed : Noted v (placed_act what slot block) between
  pub committed : HasCommitted between slot block r w

-- the record of a fresh content has no hop
abbrev pub HasHop : Put → Record → Type 0
HasHop (Fresh x) r = r.hop ≡ 0
HasHop Again r = Unit {0}

-- this was put into a slot, and its commit refused
pub record HasLeft (v : Carried Act) (what : Put) (slot block : ℕ) (q : Refusal) (w : Carried Act) : Type 0 where
  pub between : Carried Act
  pub placed : Noted v (placed_act what slot block) between
  pub left : HasGivenUp between what slot block q w

-- the outcome of a commit, of a put with its commit, and of a put that may be refused
abbrev pub HasEnded : {D E : Type 0} → (D → Record) → (E → Refusal) → Carried Act → Put → ℕ → ℕ → Result D E → Carried Act → Type 0
HasEnded of why v what slot block (Ok d) w = HasCommitted v slot block (of d) w
HasEnded of why v what slot block (Err e) w = HasGivenUp v what slot block (why e) w

abbrev pub HasPut : {D E : Type 0} → (D → Record) → (E → Refusal) → Carried Act → Put → ℕ → ℕ → Result D E → Carried Act → Type 0
HasPut of why v what slot block (Ok d) w = HasPlaced v what slot block (of d) w
HasPut of why v what slot block (Err e) w = HasLeft v what slot block (why e) w

abbrev pub HasTriedPut : {D E : Type 0} → (D → Record) → (E → Refusal) → Carried Act → Put → ℕ → ℕ → Result (Result D E) E → Carried Act → Type 0
HasTriedPut of why v what slot block (Ok ended) w = HasPut of why v what slot block ended w
HasTriedPut of why v what slot block (Err e) w = Noted v (unplaced_act what slot block (why e)) w

-- the fault that a worker's call returns for a refusal
abbrev pub fault_of : Refusal → WorkFault
fault_of refusal.Memory = fault.Memory
fault_of q = fault.Core q

-- nothing was committed, for the reason that the fault gives: the put was refused, or the commit
pub record HasFailed (v : Carried Act) (what : Put) (slot block : ℕ) (reported : WorkFault) (w : Carried Act) : Type 0 where
  pub why : Refusal
  pub reported_is : reported ≡ fault_of why
  pub noted : Noted v (unplaced_act what slot block why) w ⊎ HasLeft v what slot block why w

-- a write that returned this record put what it was given into one slot and committed that very slot; one that failed had no
-- slot, or gave it back
abbrev pub HasWritten : Carried Act → Put → ℕ → Result Record WorkFault → Carried Act → Type 0
HasWritten v what block (Ok r) w = (slot : ℕ) × HasPlaced v what slot block r w
HasWritten v what block (Err reported) w = ((reported ≡ fault.NoRoom) × (w ≡ v)) ⊎ ((slot : ℕ) × HasFailed v what slot block reported w)

-- a state of the lock's value, for an array of these sizes, and a flat state that its array shows
pub record LockState (blocks payload : ℕ) : Type 0 where
  pub view : KeptView
  pub kept : IsKept blocks payload view
  pub flat : Flat
  pub shows : ShowsArray view.array flat

-- a plan was made, or there was nothing to plan
pub record WasPlanned (blocks payload : ℕ) (mirrors : List ℕ) (low : ℕ) (plan : Option Plan) : Type 0 where
  pub state : LockState blocks payload
  pub planned : MatchOption plan (IsDone mirrors low state.view) (IsPlanned mirrors low state.view)

-- a slot is the plan's, or one that came next when another could not be claimed
abbrev pub IsTried : ℕ → ℕ → Plan → ℕ → Type 0
IsTried blocks payload plan slot = (plan.slot ≡ Some slot)
    ⊎ ((state : LockState blocks payload) × (before : ℕ) × IsNext state.view plan before (Some slot))

-- the plan had no slot, or none came next when the last one could not be claimed
abbrev pub HadNoRoom : ℕ → ℕ → Plan → Type 0
HadNoRoom blocks payload plan = (plan.slot ≡ None)
    ⊎ ((state : LockState blocks payload) × (last : ℕ) × IsTried blocks payload plan last × IsNext state.view plan last None)

-- a block and a slot that a plan chose
pub record WasChosen (blocks payload : ℕ) (mirrors : List ℕ) (low : ℕ) (plan : Plan) (slot : ℕ) : Type 0 where
  pub planned : WasPlanned blocks payload mirrors low (Some plan)
  pub tried : IsTried blocks payload plan slot

-- a migration copied the block of a plan into one of the plan's slots and committed that very slot; where the copy was outrun, or it
-- failed, it gave the slot back; and without a plan or a slot it did nothing
abbrev pub HasMoved : ℕ → ℕ → List ℕ → ℕ → Carried Act → Result Migration WorkFault → Carried Act → Type 0
HasMoved blocks payload mirrors low v (Ok Idle) w = WasPlanned blocks payload mirrors low None × (w ≡ v)
HasMoved blocks payload mirrors low v (Ok NoRoom) w =
    (plan : Plan) × WasPlanned blocks payload mirrors low (Some plan) × HadNoRoom blocks payload plan × (w ≡ v)
HasMoved blocks payload mirrors low v (Ok (Moved r)) w =
    (plan : Plan) × (slot : ℕ) × WasChosen blocks payload mirrors low plan slot × HasPlaced v Again slot plan.block r w
HasMoved blocks payload mirrors low v (Ok (Outrun newer)) w =
    (plan : Plan) × (slot : ℕ) × WasChosen blocks payload mirrors low plan slot × HasFailed v Again slot plan.block (fault.Core (refusal.Outrun newer)) w
HasMoved blocks payload mirrors low v (Err reported) w =
    (plan : Plan) × (slot : ℕ) × WasChosen blocks payload mirrors low plan slot × HasFailed v Again slot plan.block reported w

-- a read that returned this lesson of the block: one step of the Taker found a written record of that block, the lesson is what was
-- learned of it, and where the lesson has another record a second step took that
pub record HasRead (v : Carried Act) (before : View) (block : ℕ) (lesson : Lesson) (after : View) (w : Carried Act) : Type 0 where
  pub found : Record
  pub between : View
  pub of : found.block ≡ block
  pub written : 0 < found.version
  pub asked : HasAsked before block (key_of found) between
  pub learned : Noted v (Learns found lesson.reported lesson.content) w
  pub learnt : Learnt lesson.reported found between after

-- a read that failed: one step of the Taker found a record of the block, of which nothing was learned
pub record HasNotRead (v : Carried Act) (before : View) (block : ℕ) (reported : WorkFault) (after : View) (w : Carried Act) : Type 0 where
  pub found : Record
  pub of : found.block ≡ block
  pub asked : HasAsked before block (key_of found) after
  pub why : Refusal
  pub reported_is : reported ≡ fault_of why
  pub noted : Noted v (refused_read found why) w

-- what a read of a block added: a lesson; where no record of the block was known, nothing; or a failed read
abbrev pub HasReadBlock : Carried Act → View → ℕ → Result (Option Lesson) WorkFault → View → Carried Act → Type 0
HasReadBlock v before block (Ok (Some lesson)) after w = HasRead v before block lesson after w
HasReadBlock v before block (Ok None) after w = HasAsked before block 0 after × (w ≡ v)
HasReadBlock v before block (Err reported) after w = HasNotRead v before block reported after w
