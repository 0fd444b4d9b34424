-- What a call changes in what is seen of an array, and why it is refused.
use Rattle.std.specs.Prelude.{◌≡◌, ℕ, ◌+◌, ◌/◌, ◌%◌, ◌<◌, ◌==◌, ◌&&◌, Bool, nat_le, List, [], ◌∷◌, ◌++◌, length, slice_index_or, slice_set, if◌then◌else◌, Option, Some, None}
use Rattle.map_join.specs.declared.records.Record.{Record}
use Rattle.map_join.specs.Record.{key_of}
use Rattle.extents.specs.declared.header.Kind.{Kind}
use Rattle.extents.specs.declared.header.Kind.TheVariants as kind
use Rattle.extent_groups.specs.declared.class.Class.{Class}
use Rattle.extent_groups.specs.declared.class.Class.TheVariants.{Mirrored, Parity}
use Rattle.flat_machine.specs.declared.refusal.Refusal.{Refusal}
use Rattle.flat_machine.specs.declared.refusal.Refusal.TheVariants.{Memory, NoGroup, WrongClass, InUse, NoTicket, Outrun, VersionSpent, HopsSpent, Unwritten, LogFull}
use Rattle.slot_tables.specs.declared.hand.Hand.{Hand}
use Rattle.slot_tables.specs.declared.hand.Hand.TheVariants.{Empty, Holds}
use Rattle.flat_machine.specs.Groups.{class_at}
use Rattle.flat_machine.specs.Flat.{or_else}
use Rattle.flat_machine.specs.Cases.{next_version, last_version, last_hop, longest_log}
use Rattle.unit_store.specs.Views.{PartsView}
use Rattle.slot_tables.specs.Views.{Kept, Nothing, Pending, Moving, Newest, Unmade, ArrayView, kept_at}

-- for the refusal Memory: `expected`, that all tests before an allocation pass; for any other refusal: the case p
abbrev pub MayRefuse : Refusal → Type 0 → Type 0 → Type 0
MayRefuse Memory expected p = expected
MayRefuse _ expected p = p

-- the array after a slot was made to wait
abbrev pub wait_view : ArrayView → ℕ → Kept → ArrayView
wait_view a slot kept = record a { kept = slice_set a.kept slot kept }

-- the array after a fill of this kind, and after a copy of a record of this kind
abbrev pub fill_view : ArrayView → ℕ → Kind → ArrayView
fill_view a slot k = wait_view a slot (Pending k)

abbrev pub copy_view : ArrayView → ℕ → Record → Kind → ArrayView
copy_view a slot r k = wait_view a slot (Moving r k)

-- why no fresh content, a payload or a trim, can go into the slot
abbrev pub fill_reason_of : Option Class → Kept → Option Refusal
fill_reason_of None _ = Some NoGroup
fill_reason_of (Some Parity) _ = Some WrongClass
fill_reason_of (Some Mirrored) Nothing = None
fill_reason_of (Some Mirrored) _ = Some InUse

abbrev pub fill_reason : ArrayView → ℕ → Option Refusal
fill_reason a slot = fill_reason_of (class_at a.parts.groups slot) (kept_at a slot)

-- why a block's newest content can't be copied into the slot
abbrev pub copy_reason_of : Option Class → Kept → Option Record → Option Refusal
copy_reason_of None _ _ = Some NoGroup
copy_reason_of (Some class) Nothing None = Some Unwritten
copy_reason_of (Some class) Nothing (Some r) = if nat_le last_hop r.hop then Some HopsSpent else None
copy_reason_of (Some class) _ _ = Some InUse

abbrev pub copy_reason : ArrayView → ℕ → Option Record → Option Refusal
copy_reason a slot found = copy_reason_of (class_at a.parts.groups slot) (kept_at a slot) found

-- what is kept of a slot, without the claim that is kept of it for a dissolved group
abbrev pub opened_of : Kept → Kept
opened_of Unmade = Nothing
opened_of kept = kept

-- the claims that were kept of a group's number went out, and nothing else did
pub record IsOpened (g : ℕ) (old new : List Kept) : Type 0 where
  pub many : length new ≡ length old
  pub here : (s : ℕ) → s / 128 ≡ g → slice_index_or new s Nothing ≡ opened_of (slice_index_or old s Nothing)
  pub rest : (s : ℕ) → (s / 128 ≡ g → ⊥) → slice_index_or new s Nothing ≡ slice_index_or old s Nothing

-- the claims of the first `count` slots of a group were taken in as those of a dissolved one, and nothing else changed
pub record IsClosed (g count : ℕ) (old new : List Kept) : Type 0 where
  pub many : length new ≡ length old
  pub here : (s : ℕ) → s / 128 ≡ g → s % 128 < count → slice_index_or new s Nothing ≡ Unmade
  pub rest : (s : ℕ) → (s / 128 ≡ g → s % 128 < count → ⊥) → slice_index_or new s Nothing ≡ slice_index_or old s Nothing

-- the array with other parts, and with other claims of a dissolved group's slots
abbrev pub opened_view : ArrayView → PartsView → List Kept → ArrayView
opened_view a parts kept = record a { parts = parts; kept = kept }

-- the array after a ticket was given up
abbrev pub discard_view : ArrayView → ℕ → ArrayView
discard_view a slot = record a { kept = slice_set a.kept slot Nothing }

-- what is kept, without the old place of a block
abbrev pub without_old : List Kept → Option Record → List Kept
without_old kept None = kept
without_old kept (Some old) = slice_set kept old.place Nothing

-- the array after a commit that emits the record
abbrev pub commit_view : ArrayView → ℕ → ℕ → Option Record → Record → ArrayView
commit_view a slot block found r = record a {
  log = a.log ++ r ∷ [];
  keys = slice_set a.keys block (key_of r);
  kept = slice_set (without_old a.kept found) slot (Newest block);
}

-- why what is kept of a slot can't be committed to a block, given the newest record of the block: last of all the log is full
abbrev pub full_reason : ArrayView → Option Refusal
full_reason a = if nat_le longest_log (length a.log) then Some LogFull else None

-- a fresh content: the block's versions are spent
abbrev pub version_reason : Option Record → Option Refusal
version_reason found = if next_version found == last_version + 1 then Some VersionSpent else None

-- a copy: it is of another block, or the newest record has another version or hop
abbrev pub has_stamp : Record → Record → Bool
has_stamp n r = (n.version == r.version) && (n.hop == r.hop)

abbrev pub stamp_reason : Record → ℕ → Option Record → Option Refusal
stamp_reason r block None = Some NoTicket
stamp_reason r block (Some n) = if r.block == block then (if has_stamp n r then None else Some (Outrun n)) else Some NoTicket

abbrev pub ticket_reason : Kept → ℕ → Option Record → Option Refusal
ticket_reason (Pending k) block found = version_reason found
ticket_reason (Moving r k) block found = stamp_reason r block found
ticket_reason _ block found = Some NoTicket

abbrev pub commit_reason_of : ArrayView → Kept → ℕ → Option Record → Option Refusal
commit_reason_of a kept block found = or_else (ticket_reason kept block found) (full_reason a)

abbrev pub commit_reason : ArrayView → ℕ → ℕ → Option Record → Option Refusal
commit_reason a slot block found = commit_reason_of a (kept_at a slot) block found

-- the version and the hop that a commit of what is kept gives
abbrev pub version_given : Kept → Option Record → ℕ
version_given (Moving r k) found = r.version
version_given _ found = next_version found

abbrev pub hop_given : Kept → ℕ
hop_given (Moving r k) = r.hop + 1
hop_given _ = 0

-- the kind of what waits, which goes into its header
abbrev pub kind_given : Kept → Kind
kind_given (Pending k) = k
kind_given (Moving r k) = k
kind_given _ = kind.Data

-- the record that a commit emits
abbrev pub commit_record : ArrayView → ℕ → ℕ → Option Record → Record
commit_record a slot block found =
    record { block = block; version = version_given (kept_at a slot) found; hop = hop_given (kept_at a slot); place = slot }

-- the claim of the old place, where there is one
abbrev pub IsPlaceOf : {C : Type 0} → (C → ℕ) → Option C → Option Record → Type 0
IsPlaceOf names None None = (Unit {0})
IsPlaceOf names (Some claim) (Some old) = names claim ≡ old.place
IsPlaceOf names _ _ = ⊥

-- the hands after a commit: the slot is the array's, and the old place is the worker's
abbrev pub passed_hands : List Hand → ℕ → ℕ → Option Record → List Hand
passed_hands hands s w None = slice_set hands s Empty
passed_hands hands s w (Some old) = slice_set (slice_set hands s Empty) old.place (Holds w)
