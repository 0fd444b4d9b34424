-- What is done under one hold of a Book's lock, in the words of the flat machine, and runs of it. Every step is worker 0's: whose
-- call it was is next to it in the history. A claim comes where the array learns of it, and a release where the slot ends to be
-- the array's.
use Rattle.std.specs.Prelude.{◌≡◌, ℕ, List, [], ◌∷◌, Option, Some, None, Bool, true, Result, Ok, Err}
use Rattle.map_join.specs.declared.records.Record.{Record}
use Rattle.flat_machine.specs.declared.refusal.Refusal.{Refusal}
use Rattle.flat_machine.specs.declared.refusal.Refusal.TheVariants.{Memory}
use Rattle.flat_machine.specs.Flat.{Flat, Content, Holder, Worker, Ticket}
use Rattle.flat_machine.specs.Steps.{FlatStep, Claim, Release, Commit, Discard, FlatAnswer, Claimed, Released, Committed, Discarded, Refused}
use Rattle.flat_machine.specs.Cases.{Runs}
use Rattle.flat_machine.specs.History.{IsHistory}
use Rattle.flat_machine.specs.Learning.{LearnedCase, UnlearnedCase}
use Rattle.slot_tables.specs.Represents.{ShowsArray}
use Rattle.slot_tables.specs.Views.{ArrayView}
use Rattle.step_core.specs.Placing.{Put, put_step, put_answer}
use Rattle.step_core.specs.Reported.{Lesson}
use Rattle.disk_array.specs.declared.commit.Done.{Done}
use Rattle.history.specs.declared.view.Entry.{Entry}
use Rattle.history.specs.Entries.{entry, Course}

-- the array with which a history begins; or steps and their answers; or what a read of a record learned, or why it learned nothing
pub data Act : Type 0 where
  Opens : ArrayView → Act
  Steps : List FlatStep → List FlatAnswer → Act
  Learns : Record → Record → Content → Act
  Fails : Record → Refusal → Act

-- an act leads from one state to another
abbrev pub Leads : Flat → Act → Flat → Type 0
Leads F (Opens array) G = ⊥
Leads F (Steps steps answers) G = Runs F steps answers G
Leads F (Learns asked reported content) G = LearnedCase F asked reported content G
Leads F (Fails asked q) G = UnlearnedCase F asked q G

-- no step
abbrev pub idle : Act
idle = Steps [] []

-- a put into a claimed slot, which is released where it is refused
abbrev pub placed_act : Put → ℕ → ℕ → Act
placed_act what s b = Steps (Claim 0 s ∷ put_step what 0 s b ∷ []) (Claimed s ∷ put_answer what s ∷ [])

abbrev pub unplaced_act : Put → ℕ → ℕ → Refusal → Act
unplaced_act what s b q = Steps (Claim 0 s ∷ put_step what 0 s b ∷ Release 0 s ∷ []) (Claimed s ∷ Refused q ∷ Released s ∷ [])

abbrev pub put_act : {C : Type 0} → Put → ℕ → ℕ → Result ℕ (Refusal × C) → Act
put_act what s b (Ok t) = placed_act what s b
put_act what s b (Err e) = unplaced_act what s b e.0

-- a commit, after which the block's old place is released, if it had one
abbrev pub committed_act : ℕ → ℕ → Record → Option ℕ → Act
committed_act s b r None = Steps (Commit 0 s b ∷ []) (Committed r ∷ [])
committed_act s b r (Some old) = Steps (Commit 0 s b ∷ Release 0 old ∷ []) (Committed r ∷ Released old ∷ [])

-- the slot of a claim, if there is one
abbrev pub claim_slot : {C : Type 0} → (C → ℕ) → Option C → Option ℕ
claim_slot names None = None
claim_slot names (Some claim) = Some (names claim)

abbrev pub commit_act : {C : Type 0} → (C → ℕ) → ℕ → ℕ → Done C → Act
commit_act names s b done = committed_act s b done.emitted (claim_slot names done.old)

-- a refused commit; out of memory takes no step
abbrev pub refused_commit : ℕ → ℕ → Refusal → Act
refused_commit s b Memory = idle
refused_commit s b q = Steps (Commit 0 s b ∷ []) (Refused q ∷ [])

-- a ticket is given up, and its slot released; or there is none
abbrev pub discarded_act : ℕ → Act
discarded_act s = Steps (Discard 0 s ∷ Release 0 s ∷ []) (Discarded s ∷ Released s ∷ [])

abbrev pub undiscarded_act : ℕ → Refusal → Act
undiscarded_act s q = Steps (Discard 0 s ∷ []) (Refused q ∷ [])

abbrev pub discard_act : {C : Type 0} → ℕ → Result C (Refusal × ℕ) → Act
discard_act s (Ok claim) = discarded_act s
discard_act s (Err e) = undiscarded_act s e.0

-- a read of a record; out of memory takes no step
abbrev pub refused_read : Record → Refusal → Act
refused_read asked Memory = idle
refused_read asked q = Fails asked q

abbrev pub read_act : Record → Result Lesson Refusal → Act
read_act asked (Ok l) = Learns asked l.reported l.content
read_act asked (Err q) = refused_read asked q

-- a state of which all holds that is true of every state of the flat machine
abbrev pub HasHistory : Flat → Type 0
HasHistory F = (keys : ℕ → ℕ) × IsHistory F keys

-- the entries of a history, one after the other, lead from one state to another, through sound states
abbrev pub Replays : Flat → List (Entry Act) → Flat → Type 0
Replays F [] G = G ≡ F
Replays F (e ∷ es) G = (M : Flat) × Leads F e.what M × HasHistory M × Replays M es G

-- no worker has a claim, and all tickets are worker 0's
pub record AreIdle (held : ℕ → Holder → Bool) : Type 0 where
  pub claims : (s w : ℕ) → held s (Worker w) ≡ true → ⊥
  pub tickets : (s w : ℕ) → held s (Ticket w) ≡ true → w ≡ 0

abbrev pub IsIdle : Flat → Type 0
IsIdle F = AreIdle F.held

-- the history begins with an array, which shows some state without workers' claims; from there all other entries lead to this state
pub record IsRun (log : List (Entry Act)) (F : Flat) : Type 0 where
  pub by : ℕ
  pub array : ArrayView
  pub rest : List (Entry Act)
  pub begins : log ≡ entry by (Opens array) ∷ rest
  pub opening : Flat
  pub shows : ShowsArray array opening
  pub idle : IsIdle opening
  pub follows : Replays opening rest F

-- the history leads somewhere
abbrev pub IsCourse : List (Entry Act) → Type 0
IsCourse log = (F : Flat) × IsRun log F

-- the history leads to this state, in which no worker has a claim
pub record IsTraced (log : List (Entry Act)) (F : Flat) : Type 0 where
  pub run : IsRun log F
  pub idle : IsIdle F

-- the history leads to this state, and exactly this many hands were hired
pub record IsLed (keeper : Course Act) (hands : ℕ) (F : Flat) : Type 0 where
  pub traced : IsTraced keeper.log F
  pub hired : keeper.hired ≡ hands

-- the history leads to a state that the array shows
pub record IsEndOf (log : List (Entry Act)) (array : ArrayView) : Type 0 where
  pub flat : Flat
  pub traced : IsTraced log flat
  pub shows : ShowsArray array flat
