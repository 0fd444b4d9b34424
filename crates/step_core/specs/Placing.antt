-- A block goes into a slot that nobody holds: the slot is claimed, filled or copied into, and committed; then the block's old place is
-- released. Where the array refuses, the slot is released.
use Rattle.std.specs.Prelude.{◌≡◌, ◌≢◌, ◌<◌, ◌⊎◌, ℕ, true, List, [], ◌∷◌, length, Option, Some, None, Result, Ok, Err, MatchResult}
use Rattle.map_join.specs.declared.records.Record.{Record}
use Rattle.flat_machine.specs.declared.refusal.Refusal.{Refusal}
use Rattle.flat_machine.specs.declared.refusal.Refusal.TheVariants.{Memory}
use Rattle.flat_machine.specs.Flat.{Flat, Content, Payload, Trim, IsNewest, Worker, Ticket}
use Rattle.flat_machine.specs.Steps.{FlatStep, FlatAnswer, Claimed, Taken, Released, Filled, Copied, Committed, Discarded}
use Rattle.flat_machine.specs.Steps as step
use Rattle.flat_machine.specs.Cases.{Case, CommitCase, DiscardCase, IsAllocating, Runs}
use Rattle.extent_groups.specs.declared.class.Class.TheVariants.{Mirrored}
use Rattle.extent_groups.specs.Groups.{Groups}
use Rattle.extent_groups.specs.Stores.{IsSlotOf}
use Rattle.slot_tables.specs.Changes.{MayRefuse, fill_reason}
use Rattle.slot_tables.specs.AtOnce.{ArePutAtOnce}
use Rattle.slot_tables.specs.Represents.{ShowsArray}
use Rattle.slot_tables.specs.Views.{ArrayView, SameSizes}
use Rattle.step_core.specs.declared.place.Given.{Given}
use Rattle.step_core.specs.declared.place.Given.TheVariants as given
use Rattle.step_core.specs.declared.claimed.What.{What}
use Rattle.step_core.specs.declared.claimed.What.TheVariants as what
use Rattle.step_core.specs.declared.place.Placed.{Placed}
use Rattle.step_core.specs.declared.place.NotPlaced.{NotPlaced}
use Rattle.step_core.specs.declared.place.NotPlaced.TheVariants as denied

-- what goes into a slot: a fresh content, or a copy of the block's last write
pub data Put : Type 0 where
  Fresh : Content → Put
  Again : Put

-- a borrowed payload, or a trim
abbrev pub content_of : Given → Content
content_of (given.Payload payload) = Payload payload.now
content_of given.Trim = Trim

-- what is given, or else a copy
abbrev pub put_of : Option Given → Put
put_of (Some x) = Fresh (content_of x)
put_of None = Again

-- what is given fits the units
abbrev pub IsGivenFor : ℕ → Given → Type 0
IsGivenFor size (given.Payload payload) = length payload.now ≡ size
IsGivenFor size given.Trim = Unit {0}

abbrev pub IsSizedFor : ℕ → Option Given → Type 0
IsSizedFor size None = Unit {0}
IsSizedFor size (Some x) = IsGivenFor size x

-- what goes into a claimed slot; of which block it is a copy, of no meaning where it is none
abbrev pub put_for : What → Put
put_for (what.Fresh x) = Fresh (content_of x)
put_for (what.CopyOf b) = Again

abbrev pub block_for : What → ℕ
block_for (what.Fresh x) = 0
block_for (what.CopyOf b) = b

-- it fits the units, or the block is one of the array's
abbrev pub IsWhatFor : ℕ → ℕ → What → Type 0
IsWhatFor blocks payload (what.Fresh x) = IsGivenFor payload x
IsWhatFor blocks payload (what.CopyOf b) = b < blocks

-- and a copy is of this block
abbrev pub IsWhatOf : ℕ → What → Type 0
IsWhatOf block (what.Fresh x) = Unit {0}
IsWhatOf block (what.CopyOf b) = b ≡ block

-- what is given, else a copy of the block
abbrev pub what_of : Option Given → ℕ → What
what_of (Some x) b = what.Fresh x
what_of None b = what.CopyOf b

-- the slot is open to it: a fresh content goes into a mirrored slot of which the array keeps nothing; whether a copy can go there
-- depends on its block, too, and is found out by the copy
abbrev pub IsOpenFor : ArrayView → ℕ → What → Type 0
IsOpenFor a s (what.Fresh x) = fill_reason a s ≡ None
IsOpenFor a s (what.CopyOf b) = Unit {0}

-- and why it isn't open
abbrev pub IsClosedFor : ArrayView → ℕ → What → Refusal → Type 0
IsClosedFor a s (what.Fresh x) q = fill_reason a s ≡ Some q
IsClosedFor a s (what.CopyOf b) q = ⊥

-- the slot is of a group where it can go: what is given goes into mirrored groups alone
abbrev pub IsLevelFor : Option Given → Groups → ℕ → Type 0
IsLevelFor (Some x) groups s = IsSlotOf Mirrored groups s
IsLevelFor None groups s = Unit {0}

-- the step that puts it there, and its answer where it isn't refused
abbrev pub put_step : Put → ℕ → ℕ → ℕ → FlatStep
put_step (Fresh x) w s b = step.Fill w s x
put_step Again w s b = step.Copy w s b

abbrev pub put_answer : Put → ℕ → FlatAnswer
put_answer (Fresh x) s = Filled s
put_answer Again s = Copied s

-- an array has the groups and the keys of another
pub record IsStill (a b : ArrayView) : Type 0 where
  pub groups : b.parts.groups ≡ a.parts.groups
  pub keys : b.keys ≡ a.keys

-- what a put into a claimed slot answers of a state; it is never out of memory
abbrev pub PutReports : {C : Type 0} → Result ℕ (Refusal × C) → Flat → ℕ → Put → ℕ → ℕ → ArrayView → Type 0
PutReports r F w what s b a = MatchResult r
    (λ t. (G : Flat) × Case F (put_step what w s b) (put_answer what s) G × ShowsArray a G)
    (λ e. MayRefuse e.0 (Unit {0}) ((G : Flat) × Case F (put_step what w s b) (step.Refused e.0) G × ShowsArray a G))

-- what an array says of a fill or a copy that it carried out, and of one that it refused
abbrev pub Puts : ArrayView → ArrayView → Put → ℕ → ℕ → Type 0
Puts a e what s b =
    (F : Flat) (w : ℕ) → ShowsArray a F → F.held s (Worker w) ≡ true → (G : Flat) × (Case F (put_step what w s b) (put_answer what s) G) × (ShowsArray e G)

abbrev pub Denies : ArrayView → ArrayView → Put → ℕ → ℕ → Refusal → Type 0
Denies a e what s b r = (F : Flat) (w : ℕ) → ShowsArray a F → F.held s (Worker w) ≡ true
    → MayRefuse r (Unit {0}) ((G : Flat) × (Case F (put_step what w s b) (step.Refused r) G) × (ShowsArray e G))

-- what it says of one that it carried out together with its commit, in one write
abbrev pub PutsAtOnce : ArrayView → ArrayView → Put → ℕ → ℕ → Record → Type 0
PutsAtOnce a e what s b r = (F : Flat) (w : ℕ) → ShowsArray a F → F.held s (Worker w) ≡ true → ArePutAtOnce F (put_step what w s b) (put_answer what s) w s b r e

-- a worker has the ticket of the slot, if there is one
abbrev pub HasTicket : Flat → ℕ → ℕ → Type 0
HasTicket F w s = F.tickets s ≢ None → F.held s (Ticket w) ≡ true

-- what waits at the slot is committed for the block, as this record
abbrev pub Commits : ArrayView → ArrayView → ℕ → ℕ → Record → Type 0
Commits a e s b r = (F : Flat) (w : ℕ) → ShowsArray a F → HasTicket F w s → (G : Flat) × CommitCase F w s b (Committed r) G × ShowsArray e G

-- its commit is refused
abbrev pub RefusesCommit : ArrayView → ArrayView → ℕ → ℕ → Refusal → Type 0
RefusesCommit a e s b q = (F : Flat) (w : ℕ) → ShowsArray a F → HasTicket F w s
    → MayRefuse q (IsAllocating F (step.Commit w s b)) ((G : Flat) × CommitCase F w s b (step.Refused q) G × ShowsArray e G)

-- its ticket ends
abbrev pub Discards : ArrayView → ArrayView → ℕ → Type 0
Discards a e s = (F : Flat) (w : ℕ) → ShowsArray a F → F.held s (Ticket w) ≡ true → (G : Flat) × DiscardCase F w s (Discarded s) G × ShowsArray e G

-- its commit is refused, and then its ticket ends
pub record GivesUp (a e : ArrayView) (s b : ℕ) (q : Refusal) : Type 0 where
  pub between : ArrayView
  pub refused : RefusesCommit a between s b q
  pub same : q ≡ Memory → between ≡ a
  pub ended : Discards between e s

-- its put is refused, or the put is carried out, and then the commit is given up
pub record GivesUpLate (a e : ArrayView) (what : Put) (s b : ℕ) (q : Refusal) : Type 0 where
  pub between : ArrayView
  pub puts : Puts a between what s b
  pub room : SameSizes a between
  pub up : GivesUp between e s b q

abbrev pub IsNotPlaced : ArrayView → ArrayView → Put → ℕ → ℕ → Refusal → Type 0
IsNotPlaced a e what s b q = ((q ≢ Memory) × Denies a e what s b q) ⊎ GivesUpLate a e what s b q

-- the steps that release the old place, if there was one, and their answers
abbrev pub back_steps : ℕ → Option Record → List FlatStep
back_steps w None = []
back_steps w (Some old) = step.Release w old.place ∷ []

abbrev pub back_answers : Option Record → List FlatAnswer
back_answers None = []
back_answers (Some old) = Released old.place ∷ []

-- the block lies in the slot under the record, and nobody holds its old place
pub record IsRelocated (F : Flat) (w s b : ℕ) (what : Put) (r : Record) (G : Flat) : Type 0 where
  pub old : Option Record
  pub newest : IsNewest F.emitted b old
  pub run : Runs F (step.Claim w s ∷ put_step what w s b ∷ step.Commit w s b ∷ back_steps w old)
      (Claimed s ∷ put_answer what s ∷ Committed r ∷ back_answers old) G

-- refused before anything waited in the slot
abbrev pub IsRefusedAtOnce : Flat → ℕ → ℕ → ℕ → Put → Refusal → Flat → Type 0
IsRefusedAtOnce F w s b what k G =
    Runs F (step.Claim w s ∷ put_step what w s b ∷ step.Release w s ∷ []) (Claimed s ∷ step.Refused k ∷ Released s ∷ []) G

-- refused when it was to be committed
abbrev pub IsRefusedLate : Flat → ℕ → ℕ → ℕ → Put → Refusal → Flat → Type 0
IsRefusedLate F w s b what k G =
    Runs F (step.Claim w s ∷ put_step what w s b ∷ step.Commit w s b ∷ step.Discard w s ∷ step.Release w s ∷ [])
    (Claimed s ∷ put_answer what s ∷ step.Refused k ∷ Discarded s ∷ Released s ∷ []) G

-- an allocation of the commit failed, after all that is tested before it had passed: the slot has what was put into it, and is
-- released. No fill and no copy is out of memory
pub record PlaceStops (F : Flat) (w s b : ℕ) (what : Put) (G : Flat) : Type 0 where
  pub run : Runs F (step.Claim w s ∷ put_step what w s b ∷ step.Discard w s ∷ step.Release w s ∷ [])
      (Claimed s ∷ put_answer what s ∷ Discarded s ∷ Released s ∷ []) G
  pub expected : IsAllocating run.2.0 (step.Commit w s b)

-- the slot of a record, if there is one
abbrev pub record_slot : Option Record → Option ℕ
record_slot None = None
record_slot (Some r) = Some r.place

-- the result of putting a block into a slot, in the steps of any worker: `Taken` where somebody holds the slot
abbrev pub Places : Flat → ℕ → ℕ → ℕ → Put → Result Placed NotPlaced → Flat → Type 0
Places F w s b what (Ok placed) G = (is : IsRelocated F w s b what placed.newest G) × (placed.left ≡ record_slot is.old)
Places F w s b what (Err denied.Taken) G = Runs F (step.Claim w s ∷ []) (Taken s ∷ []) G
Places F w s b what (Err (denied.Refused k)) G =
    MayRefuse k (PlaceStops F w s b what G) (IsRefusedAtOnce F w s b what k G ⊎ IsRefusedLate F w s b what k G)

-- the same of a slot that nobody holds
abbrev pub PlacesFree : Flat → ℕ → ℕ → ℕ → Put → Result Placed Refusal → Flat → Type 0
PlacesFree F w s b what (Ok placed) G = Places F w s b what (Ok placed) G
PlacesFree F w s b what (Err k) G = Places F w s b what (Err (denied.Refused k)) G
