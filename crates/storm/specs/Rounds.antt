-- What the rounds of a storm's workers add to the history.
use Rattle.std.specs.Prelude.{◌≡◌, ℕ, ◌+◌, ◌-◌, ◌%◌, ◌++◌, List, [], ◌∷◌, Option, Result, Ok, Err, length, replicate}
use Rattle.std.specs.Int.{w32, to_be_bytes}
use Rattle.map_join.specs.declared.records.Record.{Record}
use Rattle.map_words.specs.declared.view.View.{View}
use Rattle.flat_machine.specs.declared.refusal.Refusal.TheVariants as refusal
use Rattle.flat_machine.specs.Flat.{Payload}
use Rattle.step_core.specs.Placing.{Fresh}
use Rattle.step_core.specs.Reported.{Lesson}
use Rattle.history.specs.Entries.{Carried}
use Rattle.array_book.specs.Acts.{Act}
use Rattle.array_book.specs.declared.fault.WorkFault.{WorkFault}
use Rattle.array_book.specs.declared.fault.WorkFault.TheVariants as fault
use Rattle.array_book.specs.declared.worker.Migration.{Migration}
use Rattle.array_book.specs.Outcomes.{HasWritten, HasMoved, HasReadBlock}

-- after this result of a call a worker goes on: it was Ok, no slot was free, or a record was ahead of the array
abbrev pub IsTolerated : {A : Type 0} → Result A WorkFault → Type 0
IsTolerated (Ok answer) = Unit {0}
IsTolerated (Err fault.NoRoom) = Unit {0}
IsTolerated (Err (fault.Core (refusal.Ahead newest))) = Unit {0}
IsTolerated (Err other) = ⊥

-- the block of a worker's round, of 16, and the payload that it writes, of a number of bytes: the worker's number and the
-- round's, each with its highest byte first, and zeros after them
abbrev pub round_block : ℕ → ℕ → ℕ
round_block number round = (number + round % 16) % 16

abbrev pub round_payload : ℕ → ℕ → ℕ → List ℕ
round_payload payload number round = (to_be_bytes w32 number ++ to_be_bytes w32 round) ++ replicate (payload - 8) 0

-- the array's sizes
pub record Sized : Type 0 where
  pub blocks : ℕ
  pub payload : ℕ

-- one round of the worker with this number: a write of the round's block, a migration, and a read of that block
pub record IsRound (sizes : Sized) (size number round : ℕ) (v w : Carried Act) : Type 0 where
  pub written : Result Record WorkFault
  pub wrote : Carried Act
  pub writes : HasWritten v (Fresh (Payload (round_payload size number round))) (round_block number round) written wrote
  pub mirrors : List ℕ
  pub migrated : Result Migration WorkFault
  pub moved : Carried Act
  pub moves : HasMoved sizes.blocks sizes.payload mirrors 44 wrote migrated moved
  pub known : View
  pub seen : Result (Option Lesson) WorkFault
  pub knows : View
  pub reads : HasReadBlock moved known (round_block number round) seen knows w
  pub goes_on : IsTolerated written × IsTolerated migrated × IsTolerated seen

-- rounds from this one on, one after the other, and the hand as it is after each
abbrev pub AreRounds : Sized → ℕ → ℕ → ℕ → Carried Act → List (Carried Act) → Carried Act → Type 0
AreRounds sizes size number from v [] w = w ≡ v
AreRounds sizes size number from v (x ∷ xs) w = IsRound sizes size number from v x × AreRounds sizes size number (from + 1) x xs w

-- a number of rounds, from 0 on
pub record HasPlayed (sizes : Sized) (size rounds number : ℕ) (v w : Carried Act) : Type 0 where
  pub after : List (Carried Act)
  pub many : length after ≡ rounds
  pub each : AreRounds sizes size number 0 v after w

-- workers with numbers from this one on, each with a hand that has made no entry yet
abbrev pub AreHired : ℕ → List ℕ → List (Carried Act) → Type 0
AreHired from [] [] = Unit {0}
AreHired from (n ∷ ns) (hand ∷ hands) = (n ≡ from) × (hand.mine ≡ []) × AreHired (from + 1) ns hands
AreHired from _ _ = ⊥

-- hands of workers with numbers from this one on: each had made no entry before it played these rounds, and none after them
abbrev pub HavePlayed : Sized → ℕ → ℕ → ℕ → List (Carried Act) → Type 0
HavePlayed sizes size rounds from [] = Unit {0}
HavePlayed sizes size rounds from (hand ∷ hands) =
    ((v : Carried Act) × (v.mine ≡ []) × HasPlayed sizes size rounds from v hand) × HavePlayed sizes size rounds (from + 1) hands

-- all hands of a storm but the first, which only saw the beginning
abbrev pub HaveAllPlayed : ℕ → ℕ → List (Carried Act) → Type 0
HaveAllPlayed size rounds [] = ⊥
HaveAllPlayed size rounds (first ∷ workers) = HavePlayed (record { blocks = 16; payload = size }) size rounds 0 workers
