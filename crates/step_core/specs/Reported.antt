-- The answers of a world as those of the flat machine.
use Rattle.std.specs.Prelude.{◌≡◌, ℕ, ◌<◌, List, length, Option, Result, Ok, Err}
use Rattle.step_core.specs.declared.step.Answer.{Answer}
use Rattle.step_core.specs.declared.step.Answer.TheVariants as answer
use Rattle.step_core.specs.declared.step.Step.{Step}
use Rattle.step_core.specs.declared.step.Step.TheVariants as step
use Rattle.extent_groups.specs.Groups.{Groups}
use Rattle.flat_machine.specs.declared.refusal.Refusal.{Refusal}
use Rattle.flat_machine.specs.Flat.{Payload, Trim}
pub use Rattle.disk_array.specs.Reads.{version_in, version_of, seen_of, Lesson}
use Rattle.flat_machine.specs.Steps.{FlatStep, Claim, Release, Fill, Copy, Commit, Discard, Read, ReadAt, Make, Unmake, MoveExtent, AddDrive, FlatAnswer, Claimed, Taken, Released, NotHeld, Filled, Copied, Committed, Discarded, Found, FoundAt, MadeGroup, UnmadeGroup, MovedExtent, AddedDrive, Lose, LostDrive, Refused}

-- each answer, as plain data
abbrev pub flat_answer : Answer → FlatAnswer
flat_answer (answer.Claimed s) = Claimed s
flat_answer (answer.Taken s) = Taken s
flat_answer (answer.Released s) = Released s
flat_answer (answer.NotHeld s) = NotHeld s
flat_answer (answer.Filled s) = Filled s
flat_answer (answer.Copied s) = Copied s
flat_answer (answer.Committed r) = Committed r
flat_answer (answer.Discarded s) = Discarded s
flat_answer (answer.Read found) = Found (version_of found)
flat_answer (answer.Found seen) = FoundAt (seen_of seen)
flat_answer (answer.Made g) = MadeGroup g
flat_answer (answer.Unmade g) = UnmadeGroup g
flat_answer answer.Shifted = MovedExtent
flat_answer (answer.Added d) = AddedDrive d
flat_answer (answer.Lost d) = LostDrive d
flat_answer (answer.Refused r) = Refused r

-- what a read into a buffer returns, as plain data
abbrev pub read_answer : Result (Option ℕ) Refusal → List ℕ → FlatAnswer
read_answer (Ok found) bytes = Found (version_in found bytes)
read_answer (Err refusal) bytes = Refused refusal

-- a step as plain data
abbrev pub flat_step : Step → FlatStep
flat_step (step.Claim w s) = Claim w s
flat_step (step.Release w s) = Release w s
flat_step (step.Fill w s payload) = Fill w s (Payload payload.items)
flat_step (step.Trim w s) = Fill w s Trim
flat_step (step.Copy w s b) = Copy w s b
flat_step (step.Commit w s b) = Commit w s b
flat_step (step.Discard w s) = Discard w s
flat_step (step.Read b) = Read b
flat_step (step.ReadAt r) = ReadAt r
flat_step (step.Make class members) = Make class members.items
flat_step (step.Unmake w g) = Unmake w g
flat_step (step.MoveExtent g k to) = MoveExtent g k to
flat_step step.AddDrive = AddDrive
flat_step (step.Lose d) = Lose d

-- a step of eight workers, over blocks and payloads of an array's sizes
abbrev pub FitsStep : Groups → Step → Type 0
FitsStep z (step.Claim w s) = w < 8
FitsStep z (step.Release w s) = w < 8
FitsStep z (step.Fill w s payload) = (w < 8) × (length payload.items ≡ z.payload)
FitsStep z (step.Trim w s) = w < 8
FitsStep z (step.Copy w s b) = (w < 8) × (b < z.blocks)
FitsStep z (step.Commit w s b) = (w < 8) × (b < z.blocks)
FitsStep z (step.Discard w s) = w < 8
FitsStep z (step.Read b) = b < z.blocks
FitsStep z (step.ReadAt r) = r.block < z.blocks
FitsStep z (step.Make class members) = (Unit {0})
FitsStep z (step.Unmake w g) = w < 8
FitsStep z (step.MoveExtent g k to) = (Unit {0})
FitsStep z step.AddDrive = (Unit {0})
FitsStep z (step.Lose d) = (Unit {0})

-- a step that neither adds nor loses a drive
abbrev pub SwapsNoDrive : Step → Type 0
SwapsNoDrive step.AddDrive = ⊥
SwapsNoDrive (step.Lose d) = ⊥
SwapsNoDrive _ = Unit {0}
