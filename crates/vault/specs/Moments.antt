-- What calls of a vault leave at any moment, and what stops make of unfinished ones.
use Rattle.std.specs.Prelude.{◌≡◌, ◌≢◌, ◌⊎◌, ◌<◌, ◌≤◌, ℕ, Bool, true, false, Some, List, [], ◌∷◌, ◌++◌, length, take, is_some, Result, IsErrOf, ⊤}
use Rattle.extent_groups.specs.declared.place.Place.{Place}
use Rattle.extent_groups.specs.Cells.{Cells, held}
use Rattle.extent_groups.specs.Planned.{Intended, after}
use Rattle.vault.specs.declared.store.Stop.{Stop}
use Rattle.vault.specs.declared.store.UnitRead.{UnitRead}
use Rattle.vault.specs.declared.store.UnitRead.TheVariants.{Whole, Absent, Rotten}
use Rattle.vault.specs.declared.store.VaultError.{VaultError}
use Rattle.vault.specs.declared.store.VaultError.TheVariants.{Memory, Misfit, Journal, Drive}
use Rattle.vault.specs.Images.{Image, Alike, SameUnits, SameOn, Matches, with_write, recovered, flat, is_lost}

-- after a write that a stop cuts short: any bytes at its place, if a unit is there, and the same elsewhere
pub record Torn (place : Place) (old new : Image) : Type 0 where
  pub there : (x : Place) → is_some (held new.cells x) ≡ is_some (held old.cells x)
  pub elsewhere : (x : Place) → x ≢ place → held new.cells x ≡ held old.cells x
  pub journal : new.journal ≡ old.journal

-- after the journal was emptied, which a stop cuts short: the journal of before, or an empty one
pub record Cleared (old new : Image) : Type 0 where
  pub cells : SameUnits new.cells old.cells
  pub journal : (new.journal ≡ old.journal) ⊎ (new.journal ≡ [])

-- what a stop leaves once the write of a unit has begun, and once it is whole
abbrev pub torn_at : Place → (Image → Type 0) → Image → Type 0
torn_at place outcomes i = (j : Image) × outcomes j × Torn place j i

abbrev pub written_at : Place → List ℕ → (Image → Type 0) → Image → Type 0
written_at place unit outcomes i = (j : Image) × outcomes j × Alike i (with_write j place unit)

-- what a stop leaves once a batch is appended to the journal that calls find, and once that has begun
abbrev pub has_batch : Image → List Intended → (Image → Type 0) → Image → Type 0
has_batch seen writes outcomes i = (j : Image) × outcomes j × SameUnits i.cells j.cells × (i.journal ≡ seen.journal ++ writes ∷ [])

abbrev pub with_or_without : Image → List Intended → (Image → Type 0) → Image → Type 0
with_or_without seen writes outcomes i = outcomes i ⊎ has_batch seen writes outcomes i

-- what a stop leaves once the journal began to be made durable: what it left before, or more of the first batches that calls find
abbrev pub more_batches : Image → (Image → Type 0) → Image → Type 0
more_batches seen outcomes i = (j : Image) × outcomes j × SameUnits i.cells j.cells
    × ((i.journal ≡ j.journal) ⊎ ((count : ℕ) × (length j.journal ≤ count) × (count ≤ length seen.journal) × (i.journal ≡ take count seen.journal)))

-- what a stop leaves once the journal began to be emptied
abbrev pub emptied : (Image → Type 0) → Image → Type 0
emptied outcomes i = (j : Image) × outcomes j × Cleared j i

-- each outcome of a stop is one of others
abbrev pub Within : {I : Type 0} → (I → Type 0) → (I → Type 0) → Type 0
Within {I} outcomes others = (i : I) → outcomes i → others i

-- each outcome of a stop has this journal
abbrev pub HasJournal : List (List Intended) → (Image → Type 0) → Type 0
HasJournal batches outcomes = (i : Image) → outcomes i → i.journal ≡ batches

-- each outcome of a stop has these units, but for those of lost drives
abbrev pub HasUnitsAtStop : List Bool → Cells → (Image → Type 0) → Type 0
HasUnitsAtStop lost cells outcomes = (i : Image) → outcomes i → SameOn lost i.cells cells

-- Time goes on by a call: a stop since t might have left what it might have left before, or what it leaves during the call;
-- what it leaves after the call it might leave during it.
pub record Elapses {I : Type 0} (before now : ℕ) (past since : ℕ → I → Type 0) (during leaves : I → Type 0) : Type 0 where
  pub later : before ≤ now
  pub nothing_else : (t : ℕ) (i : I) → t ≤ before → since t i → past t i ⊎ during i
  pub keeps : (t : ℕ) (i : I) → t ≤ before → past t i → since t i
  pub ends : Within leaves during

-- a stop of a kind at any moment since old leaves an image that has P
pub record LeavesOnly {V : Type 0} (moment : V → ℕ) (left_since : V → Stop → ℕ → Image → Type 0) (stop : Stop) (old new : V) (P : Image → Type 0) : Type 0 where
  pub later : moment old ≤ moment new
  pub each : (i : Image) → left_since new stop (moment old) i → P i
  -- for a run that began earlier
  pub before : (t : ℕ) (i : Image) → t ≤ moment old → left_since new stop t i → left_since old stop t i ⊎ P i

-- The journal and a drive are named only where something has failed, and a drive only if it may be.
pub record HasCause {T : Type 0} (may_name : ℕ → Type 0) (before now : ℕ) (result : Result T VaultError) : Type 0 where
  pub later : before ≤ now
  pub journal : IsErrOf result Journal → 0 < now
  pub drive : (d : ℕ) → IsErrOf result (Drive d) → (0 < now) × (d < 16) × may_name d

-- a call was refused, and nothing failed
abbrev pub IsRejected : {T : Type 0} → Result T VaultError → Type 0
IsRejected result = IsErrOf result Memory ⊎ IsErrOf result Misfit

-- another length than that of the unit at a place
abbrev pub IsMisfit : Cells → Place → List ℕ → Type 0
IsMisfit c place unit = (old : List ℕ) → held c place ≡ Some old → length old ≢ length unit

abbrev pub no_drive : ℕ → Type 0
no_drive d = ⊥

-- nothing changed: what calls find is as before, and a stop leaves nothing new
pub record IsUnchanged {V : Type 0} (seen : V → Image) (may_leave : V → Stop → Image → Type 0) (old new : V) : Type 0 where
  pub finds : seen new ≡ seen old
  pub leaves : (stop : Stop) → Within (may_leave new stop) (may_leave old stop)

-- whether a unit of this length is at a place, and that unit
abbrev pub IsUnitThere : Cells → Place → List ℕ → Bool → Type 0
IsUnitThere c place out true = held c place ≡ Some out
IsUnitThere c place out false = (unit : List ℕ) → held c place ≡ Some unit → length unit ≢ length out

-- What a read of a place's unit answers: there it is, none of this length is there, or one of this length is there that isn't as
-- its digest says. Of a rotten unit's bytes nothing is said.
abbrev pub IsUnitAt : Cells → Place → List ℕ → UnitRead → Type 0
IsUnitAt c place out Whole = IsUnitThere c place out true
IsUnitAt c place out Absent = IsUnitThere c place out false
IsUnitAt c place out Rotten = (unit : List ℕ) × (held c place ≡ Some unit) × (length unit ≡ length out)

-- the answer by whether a unit of this length is there, where none is rotten
abbrev pub read_of : Bool → UnitRead
read_of true = Whole
read_of false = Absent

-- a read tells whether the unit is attested: one that is whole is, a rotten one isn't
abbrev pub IsAsAttested : Type 0 → UnitRead → Type 0
IsAsAttested attested Whole = attested
IsAsAttested attested Absent = ⊤
IsAsAttested attested Rotten = attested → ⊥

-- no other units are attested after a call
abbrev pub AttestsNoMore : {V : Type 0} → (V → Place → Type 0) → V → V → Type 0
AttestsNoMore attested old new = (x : Place) → attested new x → attested old x

-- after a write no other units are attested, but for the one that is written
abbrev pub AttestsNoOther : {V : Type 0} → (V → Place → Type 0) → Place → V → V → Type 0
AttestsNoOther attested place old new = (x : Place) → x ≢ place → attested new x → attested old x

-- a place that one of the writes is for
abbrev pub IsWrittenTo : List Intended → Place → Type 0
IsWrittenTo [] x = ⊥
IsWrittenTo (w ∷ ws) x = (w.place ≡ x) ⊎ IsWrittenTo ws x

-- Units that differ only at places of some writes, where any bytes may be. Of lost drives nothing is said.
pub record DifferAt (lost : List Bool) (writes : List Intended) (c d : Cells) : Type 0 where
  pub there : (x : Place) → is_lost lost x.drive ≡ false → is_some (held d x) ≡ is_some (held c x)
  pub elsewhere : (x : Place) → is_lost lost x.drive ≡ false → (IsWrittenTo writes x → ⊥) → held d x ≡ held c x

-- the first batches of an image's journal, `low` of them at least; units differ only at places of those `low`
pub record IsFront (lost : List Bool) (base : Image) (low : ℕ) (i : Image) : Type 0 where
  pub cells : DifferAt lost (flat (take low base.journal)) base.cells i.cells
  pub count : ℕ
  pub least : low ≤ count
  pub most : count ≤ length base.journal
  pub journal : i.journal ≡ take count base.journal

-- a stop of a kind leaves the first batches of the journal, `low` of them at least, and no unit that these don't mend
pub record IsLogged {V : Type 0} (seen : V → Image) (may_leave : V → Stop → Image → Type 0) (lost : List Bool) (stop : Stop) (vault : V) (low : ℕ) : Type 0 where
  pub flushed : low ≤ length (seen vault).journal
  pub leaves : (i : Image) → may_leave vault stop i → IsFront lost (seen vault) low i

-- each stop leaves all batches of the journal
abbrev pub AreLogged : {V : Type 0} → (V → Image) → (V → Stop → Image → Type 0) → List Bool → V → Type 0
AreLogged seen may_leave lost vault = (stop : Stop) → IsLogged seen may_leave lost stop vault (length (seen vault).journal)

-- an image represents the units of after the first of some batches, `low` of them at least, none left out and none in part
pub record RepresentsSome (lost : List Bool) (cells : Cells) (low : ℕ) (batches : List (List Intended)) (i : Image) : Type 0 where
  pub count : ℕ
  pub least : low ≤ count
  pub most : count ≤ length batches
  pub matches : Matches lost (after cells (flat (take count batches))) i

-- an image represents these units, or those of after a batch
abbrev pub IsBeforeOrAfter : List Bool → Cells → List Intended → Image → Type 0
IsBeforeOrAfter lost cells writes i = Matches lost cells i ⊎ Matches lost (after cells writes) i

-- the image of a vault whose journal's writes are made in part: its units differ at their places only, and its journal is whole
pub record IsTorn (lost : List Bool) (base i : Image) : Type 0 where
  pub cells : DifferAt lost (flat base.journal) base.cells i.cells
  pub journal : i.journal ≡ base.journal

-- what a stop leaves is torn within the journal's writes
abbrev pub AreTorn : {V : Type 0} → (V → Image) → (V → Stop → Image → Type 0) → List Bool → V → Type 0
AreTorn seen may_leave lost vault = (stop : Stop) → Within (may_leave vault stop) (IsTorn lost (seen vault))

-- a batch writes only places of the journal's writes
abbrev pub IsWithinJournal : List Intended → Image → Type 0
IsWithinJournal batch i = (x : Place) → IsWrittenTo batch x → IsWrittenTo (flat i.journal) x

-- Writes of the journal were made in part: what calls find is torn. If no more is torn of what a stop leaves at old, neither is
-- of what a stop at any moment since old leaves.
pub record IsPartApplied {V : Type 0} (seen : V → Image) (may_leave : V → Stop → Image → Type 0) (moment : V → ℕ) (left_since : V → Stop → ℕ → Image → Type 0)
    (lost : List Bool) (old new : V) : Type 0 where
  pub finds : IsTorn lost (seen old) (seen new)
  pub leaves : AreTorn seen may_leave lost old → (stop : Stop) → Within (may_leave new stop) (IsTorn lost (seen old))
  pub moments : AreTorn seen may_leave lost old → (stop : Stop) → LeavesOnly moment left_since stop old new (IsTorn lost (seen old))

-- the journal is empty, all is durable, and calls find the units that the vault stood for
pub record IsSettled {V : Type 0} (seen : V → Image) (may_leave : V → Stop → Image → Type 0) (lost : List Bool) (old new : V) : Type 0 where
  pub empty : (seen new).journal ≡ []
  pub durable : AreLogged seen may_leave lost new
  pub cells : SameOn lost (seen new).cells (recovered (seen old))

-- the journal is as before and durable, and the vault represents the same units
pub record IsPreserved {V : Type 0} (seen : V → Image) (may_leave : V → Stop → Image → Type 0) (lost : List Bool) (old new : V) : Type 0 where
  pub journal : (seen new).journal ≡ (seen old).journal
  pub durable : AreLogged seen may_leave lost new
  pub cells : Matches lost (recovered (seen old)) (seen new)
