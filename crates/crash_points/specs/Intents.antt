-- Which step of the flat machine an intent is, and what it asks of the caller.
use Rattle.std.specs.Prelude.{◌≡◌, ◌≢◌, ℕ, ◌<◌, true, None, length}
use Rattle.map_join.specs.declared.records.Record.{Record}
use Rattle.extent_groups.specs.Groups.{Groups}
use Rattle.flat_machine.specs.Flat.{Flat, Worker, Ticket, Payload}
use Rattle.flat_machine.specs.Flat as flat
use Rattle.flat_machine.specs.Steps.{FlatStep, FlatAnswer, Filled, Copied, Committed}
use Rattle.flat_machine.specs.Steps as say
use Rattle.crash_points.specs.declared.intent.Intent.{Intent}
use Rattle.crash_points.specs.declared.intent.Intent.TheVariants.{Fill, Trim, Copy, Commit}

-- the array has such a payload, or such a block
abbrev pub IsValidIntent : Groups → Intent → Type 0
IsValidIntent groups (Fill slot payload) = length payload.items ≡ groups.payload
IsValidIntent groups (Trim slot) = Unit {0}
IsValidIntent groups (Copy slot block) = block < groups.blocks
IsValidIntent groups (Commit slot block) = block < groups.blocks

-- the slot that gets a unit
abbrev pub slot_of : Intent → ℕ
slot_of (Fill slot payload) = slot
slot_of (Trim slot) = slot
slot_of (Copy slot block) = slot
slot_of (Commit slot block) = slot

-- the step, as worker w takes it
abbrev pub step_of : ℕ → Intent → FlatStep
step_of w (Fill slot payload) = say.Fill w slot (Payload payload.items)
step_of w (Trim slot) = say.Fill w slot flat.Trim
step_of w (Copy slot block) = say.Copy w slot block
step_of w (Commit slot block) = say.Commit w slot block

-- the answer says that the step was taken
abbrev pub IsTaken : Intent → FlatAnswer → Type 0
IsTaken (Fill slot payload) answer = answer ≡ Filled slot
IsTaken (Trim slot) answer = answer ≡ Filled slot
IsTaken (Copy slot block) answer = answer ≡ Copied slot
IsTaken (Commit slot block) answer = (r : Record) × (answer ≡ Committed r)

-- the worker has what the step asks for: the slot's claim, or its ticket where one waits there
abbrev pub MayTake : Flat → ℕ → Intent → Type 0
MayTake F w (Fill slot payload) = F.held slot (Worker w) ≡ true
MayTake F w (Trim slot) = F.held slot (Worker w) ≡ true
MayTake F w (Copy slot block) = F.held slot (Worker w) ≡ true
MayTake F w (Commit slot block) = F.tickets slot ≢ None → F.held slot (Ticket w) ≡ true
