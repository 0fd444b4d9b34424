-- A history as one run of the flat machine: its steps, the records that it emitted, and what each block holds after it.
use Rattle.std.specs.Prelude.{◌≡◌, ◌⊎◌, ℕ, List, [], ◌∷◌, ◌++◌, Option, Some, None}
use Rattle.map_join.specs.declared.records.Record.{Record}
use Rattle.map_join.specs.Maps.{IsMapOf}
use Rattle.flat_machine.specs.Flat.{Flat, Content, Write, Waiting, Fresh, put, or_else, last_write}
use Rattle.flat_machine.specs.Steps.{FlatStep, Fill, Copy, Commit, Discard, Read, ReadAt, Data, Stale, FlatAnswer, Filled, Copied, Committed, Discarded, Found, FoundAt, Refused}
use Rattle.flat_machine.specs.Cases.{Runs, found_in}
use Rattle.slot_tables.specs.Represents.{ShowsArray}
use Rattle.slot_tables.specs.Views.{ArrayView, key_at}
use Rattle.history.specs.declared.view.Entry.{Entry}
use Rattle.history.specs.Entries.{entry}
use Rattle.array_book.specs.Acts.{Act, Opens, Steps, Learns, Fails}

-- a read of a record is one step at its place, and where another record lies there a second one of the record's block
abbrev pub AreReads : Record → FlatAnswer → FlatAnswer → List FlatStep → List FlatAnswer → Type 0
AreReads asked first second steps answers = ((steps ≡ ReadAt asked ∷ []) × (answers ≡ first ∷ []))
    ⊎ ((found : Option Record) × (steps ≡ ReadAt asked ∷ Read asked.block ∷ []) × (answers ≡ FoundAt (Stale found) ∷ second ∷ []))

-- the steps of an act, with their answers
abbrev pub AreStepsOf : Act → List FlatStep → List FlatAnswer → Type 0
AreStepsOf (Opens array) steps answers = ⊥
AreStepsOf (Steps own given) steps answers = (steps ≡ own) × (answers ≡ given)
AreStepsOf (Learns asked reported content) steps answers = AreReads asked (FoundAt (Data content)) (Found (found_in reported.version content)) steps answers
AreStepsOf (Fails asked q) steps answers = AreReads asked (Refused q) (Refused q) steps answers

-- the steps of a history's entries, one entry after the other
abbrev pub AreStepsIn : List (Entry Act) → List FlatStep → List FlatAnswer → Type 0
AreStepsIn [] steps answers = (steps ≡ []) × (answers ≡ [])
AreStepsIn (e ∷ es) steps answers = (own later : List FlatStep) × (given returned : List FlatAnswer) × AreStepsOf e.what own given × AreStepsIn es later returned
    × (steps ≡ own ++ later) × (answers ≡ given ++ returned)

-- the record that an answer reports as committed, and those of a list of answers, in their order
abbrev pub committed_record : FlatAnswer → List Record
committed_record (Committed r) = r ∷ []
committed_record _ = []

abbrev pub committed_in : List FlatAnswer → List Record
committed_in [] = []
committed_in (answer ∷ answers) = committed_record answer ++ committed_in answers

-- the fresh content that waits, if one does; and the content of a write, if there is one
abbrev pub fresh_of : Option Waiting → Option Content
fresh_of (Some (Fresh x)) = Some x
fresh_of _ = None

abbrev pub written_content : Option Write → Option Content
written_content None = None
written_content (Some w) = Some w.content

-- the fresh content that waits at each slot, and what each block holds: the content of its last write
abbrev pub waiting_in : Flat → ℕ → Option Content
waiting_in F s = fresh_of (F.tickets s)

abbrev pub contents_of : Flat → ℕ → Option Content
contents_of F b = written_content (last_write F.writes b)

-- what waits after a step: what a fill brought, until its slot is committed or given up
abbrev pub waits_after : FlatStep → FlatAnswer → (ℕ → Option Content) → ℕ → Option Content
waits_after (Fill w s x) (Filled t) waits = put waits s (Some x)
waits_after (Copy w s b) (Copied t) waits = put waits s None
waits_after (Commit w s b) (Committed r) waits = put waits s None
waits_after (Discard w s) (Discarded t) waits = put waits s None
waits_after _ _ waits = waits

-- what each block holds after a step: a commit gives a block the fresh content that waits at the slot; where none does, it commits a
-- copy, and the block holds what it held
abbrev pub holds_after : FlatStep → FlatAnswer → (ℕ → Option Content) → (ℕ → Option Content) → ℕ → Option Content
holds_after (Commit w s b) (Committed r) waits holds = put holds b (or_else (waits s) (holds b))
holds_after _ _ waits holds = holds

-- what each block holds after steps with these answers, from what waited and what each block held
abbrev pub holds_in : List FlatStep → List FlatAnswer → (ℕ → Option Content) → (ℕ → Option Content) → ℕ → Option Content
holds_in (step ∷ steps) (answer ∷ answers) waits holds = holds_in steps answers (waits_after step answer waits) (holds_after step answer waits holds)
holds_in _ _ waits holds = holds

-- no record is emitted, and each block holds what it held
pub record HasSameContents (F G : Flat) : Type 0 where
  pub records : G.emitted ≡ F.emitted
  pub contents : (b : ℕ) → contents_of G b ≡ contents_of F b

-- The history begins with an array. All its entries after that, one after the other, are the steps of one run of the flat machine,
-- from a state that this array shows to one that the given array shows. The given array's log is the first one's, and then the
-- records that the run committed; its map is the map of these records; and each block holds what the run's commits gave it.
pub record IsOneRun (log : List (Entry Act)) (array : ArrayView) : Type 0 where
  pub by : ℕ
  pub first : ArrayView
  pub rest : List (Entry Act)
  pub begins : log ≡ entry by (Opens first) ∷ rest
  pub opening : Flat
  pub opens : ShowsArray first opening
  pub last : Flat
  pub shows : ShowsArray array last
  pub steps : List FlatStep
  pub answers : List FlatAnswer
  pub are : AreStepsIn rest steps answers
  pub run : Runs opening steps answers last
  pub records : array.log ≡ first.log ++ committed_in answers
  pub map : IsMapOf (first.log ++ committed_in answers) (key_at array)
  pub contents : (b : ℕ) → contents_of last b ≡ holds_in steps answers (waiting_in opening) (contents_of opening) b
