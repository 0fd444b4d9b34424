-- Which calls fit an array, and what a call makes of a state.
use Rattle.std.specs.Prelude.{◌≡◌, ◌⊎◌, ◌<◌, length}
use Rattle.extent_groups.specs.Groups.{Groups}
use Rattle.flat_machine.specs.Flat.{Flat, Payload, Trim}
use Rattle.flat_machine.specs.Cases.{Leaves}
use Rattle.flat_machine.specs.Steps as f
use Rattle.step_core.specs.Reported.{flat_answer}
use Rattle.tiered_array.specs.Steps.{CommitNoted, StepAlone, TierCase, TierStops}
use Rattle.tiered_array.specs.Steps as t
use Rattle.tiered_array.specs.Tiered.{Tiered}
use Rattle.array_calls.specs.declared.call.CallAnswer.{CallAnswer}
use Rattle.array_calls.specs.declared.call.CallAnswer.TheVariants as answered
use Rattle.array_calls.specs.declared.call.Call.{Call}
use Rattle.array_calls.specs.declared.call.Call.TheVariants as call

-- a block that there is, and a payload as long as a block
abbrev pub FitsCall : Groups → Call → Type 0
FitsCall z (call.Fill w s payload) = length payload.items ≡ z.payload
FitsCall z (call.Copy w s b) = b < z.blocks
FitsCall z (call.Commit w s b) = b < z.blocks
FitsCall z (call.ReadAt r) = r.block < z.blocks
FitsCall z (call.Write b payload) = (b < z.blocks) × (length payload.items ≡ z.payload)
FitsCall z (call.Trim b) = b < z.blocks
FitsCall z _ = Unit {0}

-- a worker's step is that of the flat machine, and a commit is noted; a plan is carried out as worker 0; a flush changes nothing but
-- which drives are lost
abbrev pub CallCase : Tiered → Call → CallAnswer → Tiered → Type 0
CallCase T (call.Claim w s) (answered.Step a) U = StepAlone T (f.Claim w s) (flat_answer a) U
CallCase T (call.Release w s) (answered.Step a) U = StepAlone T (f.Release w s) (flat_answer a) U
CallCase T (call.Fill w s payload) (answered.Step a) U = StepAlone T (f.Fill w s (Payload payload.items)) (flat_answer a) U
CallCase T (call.Copy w s b) (answered.Step a) U = StepAlone T (f.Copy w s b) (flat_answer a) U
CallCase T (call.Commit w s b) (answered.Step a) U = CommitNoted T w s b (flat_answer a) U
CallCase T (call.Discard w s) (answered.Step a) U = StepAlone T (f.Discard w s) (flat_answer a) U
CallCase T (call.ReadAt r) (answered.Step a) U = StepAlone T (f.ReadAt r) (flat_answer a) U
CallCase T (call.Write b payload) (answered.Plan o) U = TierCase T (t.Write 0 b (Payload payload.items)) o U
CallCase T (call.Trim b) (answered.Plan o) U = TierCase T (t.Write 0 b Trim) o U
CallCase T call.Demote (answered.Plan o) U = TierCase T (t.Demote 0) o U
CallCase T call.Plug (answered.Plan o) U = TierCase T (t.Plug 0) o U
CallCase T call.Clean (answered.Plan o) U = TierCase T (t.Clean 0) o U
CallCase T call.Flush answered.Flushed U = (G : Flat) × Leaves T.flat G × (U ≡ record T { flat = G })
CallCase T _ _ U = ⊥

-- what a call leaves that is out of memory: a plan stops in the put that its case would have made, and a step changes nothing
abbrev pub CallStops : Tiered → Call → Tiered → Type 0
CallStops T (call.Write b payload) U = TierStops T (t.Write 0 b (Payload payload.items)) U
CallStops T (call.Trim b) U = TierStops T (t.Write 0 b Trim) U
CallStops T call.Demote U = TierStops T (t.Demote 0) U
CallStops T call.Plug U = TierStops T (t.Plug 0) U
CallStops T call.Clean U = TierStops T (t.Clean 0) U
CallStops T _ U = U ≡ T

-- what a call makes of a state: its case with some answer, or what it leaves that is out of memory
abbrev pub IsMade : Tiered → Call → Tiered → Type 0
IsMade T asked U = ((answer : CallAnswer) × CallCase T asked answer U) ⊎ CallStops T asked U
