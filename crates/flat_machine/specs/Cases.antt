-- The flat machine: which answer a step gives in a state, and which state it leaves. Each pair of step and answer has its
-- case; what never comes is impossible.
use Rattle.std.specs.Prelude.{◌≡◌, ◌≢◌, ◌⊎◌, ℕ, ◌+◌, ◌/◌, ◌%◌, ◌<◌, ◌≤◌, ◌==◌, ◌&&◌, not, nat_lt, Bool, true, false, if◌then◌else◌, List, [], ◌∷◌, ◌++◌, length, replicate, Option, Some, None}
use Rattle.map_join.specs.declared.records.Record.{Record}
use Rattle.extents.specs.Failures.{Failures, no_failures, CountsFailure, StaysSteady}
use Rattle.extents.specs.declared.header.Header.{Header}
use Rattle.extents.specs.Header.{record_in}
use Rattle.extent_groups.specs.declared.class.Class.{Class}
use Rattle.extent_groups.specs.declared.class.Class.TheVariants.{Mirrored, Parity}
use Rattle.extent_groups.specs.declared.class.Member.{Member}
use Rattle.extent_groups.specs.Geometry.{slot_count}
use Rattle.extent_groups.specs.Groups.{group_at, with_group}
use Rattle.extent_groups.specs.Missing.{IsGone, MissAtMostOne}
use Rattle.flat_machine.specs.declared.refusal.Refusal.TheVariants.{NoGroup, WrongClass, InUse, NoTicket, Outrun, VersionSpent, HopsSpent, Unwritten, Gone, SlotsHeld, DriveLost, Ahead, ExtentTaken, SameDrive, LogFull, Full, BadMember}
use Rattle.flat_machine.specs.Groups.{AreMembers, AreApart, AreUnowned, ArePresent, IsFirstLost, IsLowestFree, IsTableFull}
use Rattle.flat_machine.specs.Flat.{Flat, Write, Holder, Worker, Ticket, Block, Shut, Content, Payload, Trim, Waiting, Fresh, Moved, content_of, blank_header, header_for, Stored, content_in, waiting_unit, put, with_pair, without_pair, turned, same_holder, IsUnheld, IsArrayHeld, class_of, last_write, IsNewest}
use Rattle.map_join.specs.Record.{key_of}
use Rattle.flat_machine.specs.Moves.{IsIn, HasClaim, IsFirstStray, unmade, IsMoveReason, MovePasses, IsBeyondOf, IsFirstGone, moved_to, with_new_drive}
use Rattle.flat_machine.specs.Steps.{FlatStep, Claim, Release, Fill, Copy, Commit, Discard, Read, ReadAt, Make, Unmake, MoveExtent, AddDrive, Lose, Version, Seen, Data, Stale, FlatAnswer, Claimed, Taken, Released, NotHeld, Filled, Copied, Committed, Discarded, Found, FoundAt, MadeGroup, UnmadeGroup, MovedExtent, AddedDrive, LostDrive, Refused}

-- how a drive fares: once lost it stays lost, and its own failures rose by one where it is lost now and wasn't, and else not;
-- a steady one is lost now only if it was, and stays steady
pub record Fares (was is : Bool) (before after : Failures) : Type 0 where
  pub stays : was ≡ true → is ≡ true
  pub count : CountsFailure was is before after
  pub steady : StaysSteady was is before after

-- G is the state x, but for drives that failed
pub record Leaves (x G : Flat) : Type 0 where
  pub same : G ≡ record x { lost = G.lost; failures = G.failures }
  pub drives : (d : ℕ) → Fares (x.lost d) (G.lost d) (x.failures d) (G.failures d)

-- a slot is gone, as its drives fare in a state
abbrev pub IsGoneIn : Flat → ℕ → Type 0
IsGoneIn F s = IsGone F.groups F.lost s

-- the greatest version, the greatest hop of a version, and the longest log
abbrev pub last_version : ℕ
last_version = 4294967295

abbrev pub last_hop : ℕ
last_hop = 65535

abbrev pub longest_log : ℕ
longest_log = 4294967295

-- claim: where nobody holds the slot, the worker does
abbrev pub ClaimCase : Flat → ℕ → ℕ → FlatAnswer → Flat → Type 0
ClaimCase F w s (Claimed t) G = (t ≡ s) × (IsUnheld F s) × (Leaves (record F { held = with_pair F.held s (Worker w) }) G)
ClaimCase F w s (Taken t) G = (t ≡ s) × ((k : Holder) × (F.held s k ≡ true)) × (Leaves F G)
ClaimCase F w s _ G = ⊥

-- release: where the worker holds the slot, nobody does
abbrev pub ReleaseCase : Flat → ℕ → ℕ → FlatAnswer → Flat → Type 0
ReleaseCase F w s (Released t) G = (t ≡ s) × (F.held s (Worker w) ≡ true) × (Leaves (record F { held = without_pair F.held s (Worker w) }) G)
ReleaseCase F w s (NotHeld t) G = (t ≡ s) × (F.held s (Worker w) ≡ false) × (Leaves F G)
ReleaseCase F w s _ G = ⊥

-- the state in which a worker's slot waits, its content under a blank header
abbrev pub ticketed : Flat → ℕ → ℕ → Waiting → Flat
ticketed F w s waiting = record F {
  held = turned F.held s (Worker w) (Ticket w);
  tickets = put F.tickets s (Some waiting);
  units = put F.units s (Some (waiting_unit F.groups.payload (content_of waiting)));
}

-- a fill passes all that it tests before it allocates
abbrev pub FillPasses : Flat → ℕ → ℕ → Type 0
FillPasses F w s = (F.held s (Worker w) ≡ true) × (class_of F s ≡ Some Mirrored) × (IsArrayHeld F s → ⊥)

-- fill: a fresh content into a mirrored slot that the worker holds
abbrev pub FillCase : Flat → ℕ → ℕ → Content → FlatAnswer → Flat → Type 0
FillCase F w s x (NotHeld t) G = (t ≡ s) × (F.held s (Worker w) ≡ false) × (Leaves F G)
FillCase F w s x (Refused NoGroup) G = (F.held s (Worker w) ≡ true) × (class_of F s ≡ None) × (Leaves F G)
FillCase F w s x (Refused WrongClass) G = (F.held s (Worker w) ≡ true) × (class_of F s ≡ Some Parity) × (Leaves F G)
FillCase F w s x (Refused InUse) G = (F.held s (Worker w) ≡ true) × (class_of F s ≡ Some Mirrored) × (IsArrayHeld F s) × (Leaves F G)
FillCase F w s x (Refused (Gone t)) G = (t ≡ s) × (FillPasses F w s) × (IsGoneIn G s) × (Leaves F G)
FillCase F w s x (Filled t) G = (t ≡ s) × (FillPasses F w s) × (IsGoneIn G s → ⊥) × (Leaves (ticketed F w s (Fresh x)) G)
FillCase F w s x _ G = ⊥

-- a copy of the record passes all that it tests before it allocates
abbrev pub CopyPasses : Flat → ℕ → ℕ → ℕ → Record → Type 0
CopyPasses F w s b r =
    (F.held s (Worker w) ≡ true) × (class_of F s ≢ None) × (IsArrayHeld F s → ⊥) × (IsNewest F.emitted b (Some r)) × (r.hop < last_hop)

-- copy: the content of a block's last write into a slot that the worker holds, in a group of either class; the source is read
-- before the slot is written, and drives may fail at either
abbrev pub CopyCase : Flat → ℕ → ℕ → ℕ → FlatAnswer → Flat → Type 0
CopyCase F w s b (NotHeld t) G = (t ≡ s) × (F.held s (Worker w) ≡ false) × (Leaves F G)
CopyCase F w s b (Refused NoGroup) G = (F.held s (Worker w) ≡ true) × (class_of F s ≡ None) × (Leaves F G)
CopyCase F w s b (Refused InUse) G = (F.held s (Worker w) ≡ true) × (class_of F s ≢ None) × (IsArrayHeld F s) × (Leaves F G)
CopyCase F w s b (Refused Unwritten) G =
    (F.held s (Worker w) ≡ true) × (class_of F s ≢ None) × (IsArrayHeld F s → ⊥) × (IsNewest F.emitted b None) × (Leaves F G)
CopyCase F w s b (Refused HopsSpent) G =
    (F.held s (Worker w) ≡ true) × (class_of F s ≢ None) × (IsArrayHeld F s → ⊥)
    × ((r : Record) × (IsNewest F.emitted b (Some r)) × (last_hop ≤ r.hop)) × (Leaves F G)
CopyCase F w s b (Refused (Gone t)) G =
    ((r : Record) × (CopyPasses F w s b r)
    × (((t ≡ r.place) × (IsGoneIn G r.place)) ⊎ ((t ≡ s) × (IsGoneIn F r.place → ⊥) × (IsGoneIn G s)))) × (Leaves F G)
CopyCase F w s b (Copied t) G =
    (t ≡ s) × ((r : Record) × (x : Write) × (CopyPasses F w s b r) × (last_write F.writes b ≡ Some x)
    × (IsGoneIn F r.place → ⊥) × (IsGoneIn G s → ⊥)
    × (Leaves (ticketed F w s (Moved b r.version r.hop x.content)) G))
CopyCase F w s b _ G = ⊥

-- the version after the newest's, 1 where there is none
abbrev pub next_version : Option Record → ℕ
next_version None = 1
next_version (Some r) = r.version + 1

-- the slots' holders where the old place of a block, if any, goes from the block to the worker
abbrev pub place_passed : (ℕ → Holder → Bool) → ℕ → ℕ → Option Record → ℕ → Holder → Bool
place_passed held w b None = held
place_passed held w b (Some old) = turned held old.place (Block b) (Worker w)

-- the unit with another header
abbrev pub stamped : Option Stored → Header → Option Stored
stamped None header = None
stamped (Some u) header = Some (record u { header = header })

-- the state after a commit of a content that emits the record r: the slot goes to the block, its unit is stamped, the ticket
-- ends, and the old place goes to the worker; `writes` are the acknowledged writes then
abbrev pub committed : Flat → ℕ → ℕ → ℕ → Option Record → List Write → Content → Record → Flat
committed F w s b found writes content r = record F {
  writes = writes;
  emitted = F.emitted ++ r ∷ [];
  held = place_passed (turned F.held s (Ticket w) (Block b)) w b found;
  tickets = put F.tickets s None;
  units = put F.units s (stamped (F.units s) (header_for r content));
}

-- the newest record has the version and the hop that were copied
abbrev pub HasCopiedStamp : Option Record → ℕ → ℕ → Type 0
HasCopiedStamp None v h = ⊥
HasCopiedStamp (Some n) v h = (n.version ≡ v) × (n.hop ≡ h)

-- what waits can be committed to the block: a fresh content to any, a copy to the block that it is of
abbrev pub IsFor : Option Waiting → ℕ → Type 0
IsFor None b = ⊥
IsFor (Some (Fresh x)) b = Unit {0}
IsFor (Some (Moved c v h x)) b = c ≡ b

-- commit of a ticket, given the newest record of the block: a fresh content is its next version, and a copy the same
-- version one hop on, where nothing newer was emitted since
abbrev pub CommitWith : Flat → ℕ → ℕ → ℕ → Option Record → Option Waiting → FlatAnswer → Flat → Type 0
CommitWith F w s b found (Some (Fresh x)) (Refused VersionSpent) G = (next_version found ≡ last_version + 1) × (Leaves F G)
CommitWith F w s b found (Some (Fresh x)) (Refused LogFull) G = (next_version found ≤ last_version) × (longest_log ≤ length F.emitted) × (Leaves F G)
CommitWith F w s b found (Some (Fresh x)) (Refused (Gone t)) G =
    (next_version found ≤ last_version) × (length F.emitted < longest_log) × (t ≡ s) × (IsGoneIn G s) × (Leaves F G)
CommitWith F w s b found (Some (Fresh x)) (Committed r) G =
    (next_version found ≤ last_version) × (length F.emitted < longest_log) × (IsGoneIn G s → ⊥)
    × (r ≡ record { block = b; version = next_version found; hop = 0; place = s })
    × (Leaves (committed F w s b found (F.writes ++ record { block = b; version = next_version found; content = x } ∷ []) x r) G)
CommitWith F w s b found (Some (Moved c v h x)) (Refused (Outrun n)) G = (found ≡ Some n) × (HasCopiedStamp found v h → ⊥) × (Leaves F G)
CommitWith F w s b found (Some (Moved c v h x)) (Refused LogFull) G = (HasCopiedStamp found v h) × (longest_log ≤ length F.emitted) × (Leaves F G)
CommitWith F w s b found (Some (Moved c v h x)) (Refused (Gone t)) G =
    (HasCopiedStamp found v h) × (length F.emitted < longest_log) × (t ≡ s) × (IsGoneIn G s) × (Leaves F G)
CommitWith F w s b found (Some (Moved c v h x)) (Committed r) G =
    (HasCopiedStamp found v h) × (length F.emitted < longest_log) × (IsGoneIn G s → ⊥)
    × (r ≡ record { block = b; version = v; hop = h + 1; place = s })
    × (Leaves (committed F w s b found F.writes x r) G)
CommitWith F w s b found _ _ G = ⊥

-- commit: a worker's ticket becomes the newest place of the block
abbrev pub CommitCase : Flat → ℕ → ℕ → ℕ → FlatAnswer → Flat → Type 0
CommitCase F w s b (Refused NoTicket) G = ((F.held s (Ticket w) ≡ false) ⊎ (IsFor (F.tickets s) b → ⊥)) × (Leaves F G)
CommitCase F w s b answer G =
    (F.held s (Ticket w) ≡ true) × (IsFor (F.tickets s) b)
    × ((found : Option Record) × (IsNewest F.emitted b found) × (CommitWith F w s b found (F.tickets s) answer G))

-- the state after a ticket was given up: the worker holds the slot again, and its unit stays
abbrev pub discarded : Flat → ℕ → ℕ → Flat
discarded F w s = record F {
  held = turned F.held s (Ticket w) (Worker w);
  tickets = put F.tickets s None;
}

-- discard: the worker holds the slot of its ticket again
abbrev pub DiscardCase : Flat → ℕ → ℕ → FlatAnswer → Flat → Type 0
DiscardCase F w s (Refused NoTicket) G = (F.held s (Ticket w) ≡ false) × (Leaves F G)
DiscardCase F w s (Discarded t) G = (t ≡ s) × (F.held s (Ticket w) ≡ true) × (Leaves (discarded F w s) G)
DiscardCase F w s _ G = ⊥

-- what a read finds of a write: its payload, and nothing where it trimmed the block
abbrev pub found_in : ℕ → Content → Option Version
found_in version (Payload x) = Some (record { version = version; payload = x })
found_in version Trim = None

abbrev pub found_of : Option Write → Option Version
found_of None = None
found_of (Some w) = found_in w.version w.content

-- read: the last acknowledged write of the block, where its newest place isn't gone
abbrev pub ReadCase : Flat → ℕ → FlatAnswer → Flat → Type 0
ReadCase F b (Found answer) G =
    (answer ≡ found_of (last_write F.writes b)) × ((r : Record) → IsNewest F.emitted b (Some r) → IsGoneIn G r.place → ⊥) × (Leaves F G)
ReadCase F b (Refused (Gone t)) G = ((r : Record) × (IsNewest F.emitted b (Some r)) × (t ≡ r.place) × (IsGoneIn G t)) × (Leaves F G)
ReadCase F b _ G = ⊥

-- what is seen at the place of a record: the content where the record in the unit's header is exactly it, else that record
abbrev pub IsSeen : Option Stored → Record → Seen → Type 0
IsSeen None r (Stale found) = found ≡ None
IsSeen (Some u) r (Data x) = (record_in u.header ≡ Some r) × (x ≡ content_in u)
IsSeen (Some u) r (Stale found) = (record_in u.header ≢ Some r) × (found ≡ record_in u.header)
IsSeen _ r _ = ⊥

-- a record is greater than the newest of its block, as any is where there is none
abbrev pub IsAhead : Record → Option Record → Type 0
IsAhead r None = Unit {0}
IsAhead r (Some n) = key_of n < key_of r

-- a record is at most the newest of its block
abbrev pub IsNotAhead : Flat → Record → Type 0
IsNotAhead F r = (n : Record) × (IsNewest F.emitted r.block (Some n)) × (key_of r ≤ key_of n)

-- read at a record's place: what is seen there, where the record isn't ahead of the newest
abbrev pub ReadAtCase : Flat → Record → FlatAnswer → Flat → Type 0
ReadAtCase F r (Refused (Ahead found)) G = (IsNewest F.emitted r.block found) × (IsAhead r found) × (Leaves F G)
ReadAtCase F r (Refused (Gone t)) G = (IsNotAhead F r) × (t ≡ r.place) × (IsGoneIn G t) × (Leaves F G)
ReadAtCase F r (FoundAt seen) G = (IsNotAhead F r) × (IsGoneIn G r.place → ⊥) × (IsSeen (F.units r.place) r seen) × (Leaves F G)
ReadAtCase F r _ G = ⊥

-- what is learned of a record whose place was seen: the record with its content, or where that is stale the newest record
-- of the block with the content of its last write
abbrev pub IsLearned : Flat → Record → Seen → Record → Content → Type 0
IsLearned F r (Data x) reported content = (reported ≡ r) × (content ≡ x)
IsLearned F r (Stale found) reported content =
    (IsNewest F.emitted r.block (Some reported)) × ((w : Write) × (last_write F.writes r.block ≡ Some w) × (content ≡ w.content))

-- the units, those of a group's first slots blank with payload zero
abbrev pub wiped : (ℕ → Option Stored) → ℕ → ℕ → ℕ → ℕ → Option Stored
wiped units payload g count slot =
    if (slot / 128 == g) && nat_lt (slot % 128) count then Some (record { header = blank_header; payload = replicate payload 0 }) else units slot

-- the state in which a group is made: its slots are blank with payload zero, and what was kept of its number is free
abbrev pub made : Flat → Class → List Member → ℕ → Flat
made F class members g = record F {
  held = λ slot k. F.held slot k && not (same_holder k (Shut g));
  groups = with_group F.groups g (Some (record { class = class; members = members }));
  units = wiped F.units F.groups.payload g (slot_count class (length members) F.groups.segments);
}

-- the members can be a group's: three to eight extents that exist, on different drives, and of no group
pub record AreFit (F : Flat) (members : List Member) : Type 0 where
  pub members_are : AreMembers F.groups.extents F.drives members
  pub apart : AreApart members
  pub unowned : AreUnowned F.groups members

-- making a group passes all that it tests before it allocates
abbrev pub MakePasses : Flat → List Member → ℕ → Type 0
MakePasses F members g = (AreFit F members) × (ArePresent F.lost members) × (IsLowestFree F.groups g)

-- make: the lowest number that isn't made. A lost drive is reported before any unit is written, or once it fails while the
-- extents are wiped: then all members before it were
abbrev pub MakeCase : Flat → Class → List Member → FlatAnswer → Flat → Type 0
MakeCase F class members (Refused BadMember) G = (AreMembers F.groups.extents F.drives members → ⊥) × (Leaves F G)
MakeCase F class members (Refused SameDrive) G = (AreMembers F.groups.extents F.drives members) × (AreApart members → ⊥) × (Leaves F G)
MakeCase F class members (Refused ExtentTaken) G =
    (AreMembers F.groups.extents F.drives members) × (AreApart members) × (AreUnowned F.groups members → ⊥) × (Leaves F G)
MakeCase F class members (Refused (DriveLost d)) G =
    (AreFit F members) × ((IsFirstLost F.lost members d) ⊎ (((g : ℕ) × MakePasses F members g) × (IsFirstLost G.lost members d))) × (Leaves F G)
MakeCase F class members (Refused Full) G = (AreFit F members) × (ArePresent F.lost members) × (IsTableFull F.groups) × (Leaves F G)
MakeCase F class members (MadeGroup g) G = (MakePasses F members g) × (ArePresent G.lost members) × (Leaves (made F class members g) G)
MakeCase F class members _ G = ⊥

-- unmake: where the worker has a plain claim of every slot of the group, the group's number becomes their holder
abbrev pub UnmakeCase : Flat → ℕ → ℕ → FlatAnswer → Flat → Type 0
UnmakeCase F w g (Refused NoGroup) G = (group_at F.groups g ≡ None) × (Leaves F G)
UnmakeCase F w g (Refused (SlotsHeld s)) G = (IsFirstStray F w g s) × (Leaves F G)
UnmakeCase F w g (UnmadeGroup h) G =
    (h ≡ g) × (group_at F.groups g ≢ None) × ((s : ℕ) → IsIn F g s → HasClaim F w s) × (Leaves (unmade F w g) G)
UnmakeCase F w g _ G = ⊥

-- the greatest number of drives
abbrev pub most_drives : ℕ
most_drives = 16

-- the drive was lost before, and no drive was called; or it got lost
abbrev pub WasOrGotLost : Flat → ℕ → Flat → Type 0
WasOrGotLost F d G = ((F.lost d ≡ true) × (G ≡ F)) ⊎ ((F.lost d ≡ false) × (G.lost d ≡ true) × (Leaves F G))

-- move an extent: what lies on the group's member of this number is copied to another extent, or rebuilt where its drive is
-- lost, and then that is the member. What is copied or rebuilt was there when the step began
abbrev pub MoveCase : Flat → ℕ → ℕ → Member → FlatAnswer → Flat → Type 0
MoveCase F g k to (Refused NoGroup) G = (IsMoveReason F.groups F.drives g k to (Some NoGroup)) × (Leaves F G)
MoveCase F g k to (Refused BadMember) G = (IsMoveReason F.groups F.drives g k to (Some BadMember)) × (Leaves F G)
MoveCase F g k to (Refused SameDrive) G = (IsMoveReason F.groups F.drives g k to (Some SameDrive)) × (Leaves F G)
MoveCase F g k to (Refused ExtentTaken) G = (IsMoveReason F.groups F.drives g k to (Some ExtentTaken)) × (Leaves F G)
MoveCase F g k to (Refused (DriveLost d)) G = (IsMoveReason F.groups F.drives g k to None) × (d ≡ to.drive) × (WasOrGotLost F d G)
MoveCase F g k to (Refused (Gone s)) G =
    (MovePasses F g k to) × (IsBeyondOf G.groups G.lost g k) × (IsFirstGone G.groups G.lost g s) × (Leaves F G)
MoveCase F g k to MovedExtent G =
    (MovePasses F g k to) × (IsBeyondOf F.groups F.lost g k → ⊥) × (G.lost to.drive ≡ false) × (Leaves (moved_to F g k to) G)
MoveCase F g k to _ G = ⊥

-- add a drive: it has the next number, is present and steady, and hasn't failed; no drive is called
abbrev pub AddCase : Flat → FlatAnswer → Flat → Type 0
AddCase F (Refused Full) G = (most_drives ≤ F.drives) × (G ≡ F)
AddCase F (AddedDrive d) G = (d ≡ F.drives) × (F.drives < most_drives) × (G ≡ with_new_drive F false no_failures)
AddCase F _ G = ⊥

-- lose: the drive is lost from outside, which is no failure of its own
abbrev pub LoseCase : Flat → ℕ → FlatAnswer → Flat → Type 0
LoseCase F d (LostDrive e) G = (e ≡ d) × (d < F.drives) × (Leaves (record F { lost = put F.lost d true }) G)
LoseCase F d (Refused BadMember) G = (F.drives ≤ d) × (Leaves F G)
LoseCase F d _ G = ⊥

-- the flat machine: the case of a step
abbrev pub Case : Flat → FlatStep → FlatAnswer → Flat → Type 0
Case F (Claim w s) answer G = ClaimCase F w s answer G
Case F (Release w s) answer G = ReleaseCase F w s answer G
Case F (Fill w s x) answer G = FillCase F w s x answer G
Case F (Copy w s b) answer G = CopyCase F w s b answer G
Case F (Commit w s b) answer G = CommitCase F w s b answer G
Case F (Discard w s) answer G = DiscardCase F w s answer G
Case F (Read b) answer G = ReadCase F b answer G
Case F (ReadAt r) answer G = ReadAtCase F r answer G
Case F (Make class members) answer G = MakeCase F class members answer G
Case F (Unmake w g) answer G = UnmakeCase F w g answer G
Case F (MoveExtent g k to) answer G = MoveCase F g k to answer G
Case F AddDrive answer G = AddCase F answer G
Case F (Lose d) answer G = LoseCase F d answer G

-- a commit of a ticket, given the newest record of the block, passes all that is tested before an allocation
abbrev pub CommitPasses : Flat → Option Record → Option Waiting → Type 0
CommitPasses F found (Some (Fresh x)) = (next_version found ≤ last_version) × (length F.emitted < longest_log)
CommitPasses F found (Some (Moved c v h x)) = (HasCopiedStamp found v h) × (length F.emitted < longest_log)
CommitPasses F found None = ⊥

-- a step may run out of memory: it passes all that it tests before it allocates
abbrev pub IsAllocating : Flat → FlatStep → Type 0
IsAllocating F (Fill w s x) = FillPasses F w s
IsAllocating F (Copy w s b) = (r : Record) × CopyPasses F w s b r
IsAllocating F (Commit w s b) = (F.held s (Ticket w) ≡ true) × (IsFor (F.tickets s) b)
    × ((found : Option Record) × (IsNewest F.emitted b found) × CommitPasses F found (F.tickets s))
IsAllocating F (Read b) = (r : Record) × IsNewest F.emitted b (Some r)
IsAllocating F (ReadAt r) = IsNotAhead F r
IsAllocating F (Make class members) = (g : ℕ) × MakePasses F members g
IsAllocating F (Unmake w g) = (group_at F.groups g ≢ None) × ((s : ℕ) → IsIn F g s → HasClaim F w s)
IsAllocating F (MoveExtent g k to) = MovePasses F g k to
IsAllocating F AddDrive = F.drives < most_drives
IsAllocating F _ = ⊥

-- a run of the flat machine over a list of steps, with one answer for each
abbrev pub Runs : Flat → List FlatStep → List FlatAnswer → Flat → Type 0
Runs F [] [] G = G ≡ F
Runs F (step ∷ steps) (answer ∷ answers) G = (M : Flat) × (Case F step answer M) × (Runs M steps answers G)
Runs F _ _ G = ⊥

-- in no state that a run passes through, from its first to its last, does a group miss two members
abbrev pub NeverMissesTwo : (F : Flat) (steps : List FlatStep) (answers : List FlatAnswer) (G : Flat) → Runs F steps answers G → Type 0
NeverMissesTwo F [] [] G run = MissAtMostOne F.groups F.lost
NeverMissesTwo F (step ∷ steps) (answer ∷ answers) G run = (MissAtMostOne F.groups F.lost) × (NeverMissesTwo run.0 steps answers G run.2)
NeverMissesTwo F [] (answer ∷ answers) G run = ⊥
NeverMissesTwo F (step ∷ steps) [] G run = ⊥

-- an answer that names no slot as gone
abbrev pub ReportsPresent : FlatAnswer → Type 0
ReportsPresent (Refused (Gone t)) = ⊥
ReportsPresent _ = Unit {0}
