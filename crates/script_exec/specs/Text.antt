-- The text of each answer, without its line's end.
use Rattle.std.specs.Prelude.{ℕ, List, [], ◌∷◌, ◌++◌, length, codes, decimal, Option, Some, None}
use Rattle.hex.specs.Hex.{encode_lower}
use Rattle.map_join.specs.declared.records.Record.{Record}
use Rattle.map_join.specs.Record.{record_bytes}
use Rattle.flat_machine.specs.Flat.{Content, Payload, Trim}
use Rattle.flat_machine.specs.Steps.{Version, Seen, FlatStep, FlatAnswer}
use Rattle.flat_machine.specs.Steps as s
use Rattle.flat_machine.specs.Numbers.{number_of}
use Rattle.flat_machine.specs.declared.refusal.Refusal.{Refusal}
use Rattle.flat_machine.specs.declared.refusal.Refusal.TheVariants as refusal
use Rattle.extent_groups.specs.declared.class.Member.{Member}
use Rattle.rebalancer.specs.declared.shift.Shift.{Shift}
use Rattle.tiered_array.specs.declared.regrouped.Regrouped.{Regrouped}
use Rattle.tiered_array.specs.declared.regrouped.Regrouped.TheVariants as regrouped
use Rattle.tiered_array.specs.declared.outcome.Outcome.{Outcome}
use Rattle.tiered_array.specs.declared.outcome.Outcome.TheVariants as outcome
use Rattle.header_scan.specs.Numbers.{number_of as fault_number}
use Rattle.header_scan.specs.declared.fault.ScanFault.{ScanFault}
use Rattle.header_scan.specs.declared.fault.ScanFault.TheVariants as fault

-- a record in hex digits
abbrev pub record_text : Record → List ℕ
record_text r = encode_lower (record_bytes r)

-- a record, or the word for none
abbrev pub record_or_none : Option Record → List ℕ
record_or_none (Some r) = record_text r
record_or_none None = codes "none"

-- what follows a refusal's number: the record, the slot or the drive that it names
abbrev pub detail : Refusal → List ℕ
detail (refusal.Outrun r) = codes " " ++ record_text r
detail (refusal.Gone slot) = codes " " ++ decimal slot
detail (refusal.SlotsHeld slot) = codes " " ++ decimal slot
detail (refusal.DriveLost drive) = codes " " ++ decimal drive
detail (refusal.Ahead newest) = codes " " ++ record_or_none newest
detail _ = []

-- a version and its payload
abbrev pub data_text : ℕ → List ℕ → List ℕ
data_text version payload = codes "data " ++ (decimal version ++ (codes " " ++ encode_lower payload))

-- a version and its content, or that it trimmed the block
abbrev pub content_text : ℕ → Content → List ℕ
content_text version (Payload payload) = data_text version payload
content_text version Trim = codes "trimmed " ++ decimal version

-- what is read of a block
abbrev pub found_text : Option Version → List ℕ
found_text (Some found) = data_text found.version found.payload
found_text None = codes "none"

-- a header in decimal numbers: block, version, hop and slot
abbrev pub header_text : Record → List ℕ
header_text r =
    decimal r.block ++ (codes " " ++ (decimal r.version ++ (codes " " ++ (decimal r.hop ++ (codes " " ++ decimal r.place)))))

-- what is seen at a record's place: the content with the version that was asked for, or the header that is there
abbrev pub seen_text : ℕ → Seen → List ℕ
seen_text version (s.Data content) = content_text version content
seen_text version (s.Stale (Some r)) = codes "stale " ++ header_text r
seen_text version (s.Stale None) = codes "stale none"

-- the version that a read at a record's place asks for; no other step asks for one
abbrev pub asked_version : FlatStep → ℕ
asked_version (s.ReadAt r) = r.version
asked_version _ = 0

-- the answer to a step that asked for a version
abbrev pub answer_text : ℕ → FlatAnswer → List ℕ
answer_text asked (s.Claimed slot) = codes "claimed " ++ decimal slot
answer_text asked (s.Taken slot) = codes "taken " ++ decimal slot
answer_text asked (s.Released slot) = codes "released " ++ decimal slot
answer_text asked (s.NotHeld slot) = codes "notheld " ++ decimal slot
answer_text asked (s.Filled slot) = codes "filled " ++ decimal slot
answer_text asked (s.Copied slot) = codes "copied " ++ decimal slot
answer_text asked (s.Committed r) = codes "record " ++ record_text r
answer_text asked (s.Discarded slot) = codes "discarded " ++ decimal slot
answer_text asked (s.Found found) = found_text found
answer_text asked (s.FoundAt seen) = seen_text asked seen
answer_text asked (s.MadeGroup group) = codes "made " ++ decimal group
answer_text asked (s.UnmadeGroup group) = codes "unmade " ++ decimal group
answer_text asked s.MovedExtent = codes "moved"
answer_text asked (s.AddedDrive drive) = codes "added " ++ decimal drive
answer_text asked (s.LostDrive drive) = codes "lost " ++ decimal drive
answer_text asked (s.Refused r) = codes "refused " ++ (decimal (number_of r) ++ detail r)

-- the outcome of a step by a plan
abbrev pub outcome_text : Outcome → List ℕ
outcome_text (outcome.Placed r) = answer_text 0 (s.Committed r)
outcome_text (outcome.Refused k) = answer_text 0 (s.Refused k)
outcome_text outcome.NoRoom = codes "noroom"
outcome_text outcome.Nothing = codes "nothing"

-- an extent, and a shift of a group's member onto one
abbrev pub extent_text : Member → List ℕ
extent_text m = decimal m.drive ++ (codes "." ++ decimal m.extent)

abbrev pub shift_text : Shift → List ℕ
shift_text shift = codes "moved " ++ (decimal shift.group ++ (codes " " ++ (decimal shift.member ++ (codes " " ++ extent_text shift.to))))

-- the outcome of a shift by a plan
abbrev pub regrouped_text : Regrouped → List ℕ
regrouped_text (regrouped.Moved shift) = shift_text shift
regrouped_text (regrouped.Refused k) = answer_text 0 (s.Refused k)
regrouped_text regrouped.Nothing = codes "nothing"

-- the lowest block of which two maps differ, or that they are the same
abbrev pub difference_text : Option ℕ → List ℕ
difference_text None = codes "same"
difference_text (Some block) = codes "differs " ++ decimal block

-- records one after the other, a space before each
abbrev pub records_text : List Record → List ℕ
records_text [] = []
records_text (r ∷ rs) = 32 ∷ (record_text r ++ records_text rs)

-- how many records, and the records
abbrev pub listing : List Record → List ℕ
listing rs = decimal (length rs) ++ records_text rs

-- what follows the number of a scan's fault: the slot, with the slot that its header names, or the block and its two slots
abbrev pub fault_detail : ScanFault → List ℕ
fault_detail fault.Memory = []
fault_detail (fault.BadHeader slot) = codes " " ++ decimal slot
fault_detail (fault.WrongSlot slot reported) = codes " " ++ (decimal slot ++ (codes " " ++ decimal reported))
fault_detail (fault.Twice block first second) =
    codes " " ++ (decimal block ++ (codes " " ++ (decimal first ++ (codes " " ++ decimal second))))
fault_detail (fault.Gone slot) = codes " " ++ decimal slot
fault_detail (fault.NoClaim slot) = codes " " ++ decimal slot
fault_detail (fault.BadNote slot) = codes " " ++ decimal slot

-- a scan's fault
abbrev pub fault_text : ScanFault → List ℕ
fault_text found = codes "scan fault " ++ (decimal (fault_number found) ++ fault_detail found)
