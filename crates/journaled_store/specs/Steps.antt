-- When a vault's units and a batch are those of an array's drives.
use Rattle.std.specs.Prelude.{◌≡◌, ◌⊎◌, ◌<◌, ◌≤◌, ◌++◌, ℕ, zero, suc, Bool, true, false, Some, Result, Ok, Err, List, [], ◌∷◌, slice_get, slice_index_or}
use Rattle.std.proofs.Common.{refl, ◌∙◌}
use Rattle.extents.specs.Failures.{unsteady}
use Rattle.extents.specs.Units.{loss}
use Rattle.extent_groups.specs.Cells.{Cells}
use Rattle.extent_groups.specs.Planned.{Intended, after}
use Rattle.vault.specs.Images.{Image, Matches, is_lost, recovered}
use Rattle.vault.specs.Moments.{AreLogged, RepresentsSome}
use Rattle.vault.specs.declared.store.Stop.{Stop}
use Rattle.vault.specs.declared.store.VaultError.{VaultError}
use Rattle.byte_store.specs.declared.fault.StoreFault.{StoreFault}
use Rattle.history.specs.declared.view.Entry.{Entry}
use Rattle.history.specs.Entries.{Course}
use Rattle.unit_store.specs.Views.{DriveView}
use Rattle.cached_drive.specs.Saving.{Units, saved_by}

-- after the batch, the units of each drive are those that it saved last. Of lost drives nothing is said.
pub record IsInStep (lost : List Bool) (k : Course Units) (batch : List Intended) (c : Cells) : Type 0 where
  pub each : (d at : ℕ) → d < k.hired → is_lost lost d ≡ false → after c batch d at ≡ slice_get (saved_by d k.log) at

-- what visits make of it: it stays in step with units that it was in step with, and writes no more than drives' units
pub record LeadsTo (k : Course Units) (batch : List Intended) (marks : List ℕ) (now : Course Units) (more : List Intended) (left : List ℕ) : Type 0 where
  pub hired : now.hired ≡ k.hired
  pub noted : left ≡ marks
  pub step : (lost : List Bool) (c : Cells) → IsInStep lost k batch c → IsInStep lost now more c
  pub others : (c : Cells) (d at : ℕ) → 16 ≤ d → after c more d at ≡ after c batch d at

pub leads_stays : (k : Course Units) (batch : List Intended) (marks : List ℕ) → LeadsTo k batch marks k batch marks
leads_stays k batch marks = record { hired = refl; noted = refl; step = λ lost c s. s; others = λ c d at high. refl }

pub leads_further : (k : Course Units) (a : List Intended) (x : List ℕ) (l : Course Units) (b : List Intended) (y : List ℕ) (m : Course Units) (e : List Intended) (z : List ℕ)
    → LeadsTo k a x l b y → LeadsTo l b y m e z → LeadsTo k a x m e z
leads_further k a x l b y m e z one two = record {
  hired = two.hired ∙ one.hired;
  noted = two.noted ∙ one.noted;
  step = λ lost c s. two.step lost c (one.step lost c s);
  others = λ c d at high. two.others c d at high ∙ one.others c d at high;
}

-- a drive that saved its units and is lost or not
abbrev pub view_at : List (Entry Units) → List Bool → ℕ → DriveView
view_at log lost d = record { units = saved_by d log; lost = slice_index_or lost d true; failures = unsteady (loss false (slice_index_or lost d true)) }

-- the first drives
abbrev pub views_to : List (Entry Units) → List Bool → ℕ → List DriveView
views_to log lost zero = []
views_to log lost (suc n) = views_to log lost n ++ view_at log lost n ∷ []

-- each drive's units lie at its places. Of lost drives nothing is said.
pub record HasDrives (lost : List Bool) (drives : List DriveView) (c : Cells) : Type 0 where
  pub each : (d at : ℕ) (v : DriveView) → slice_get drives d ≡ Some v → is_lost lost d ≡ false → c d at ≡ slice_get v.units at

-- the mark of a drive in the table: 1 if it is lost
abbrev pub loss_mark : Bool → ℕ
loss_mark false = 0
loss_mark true = 1

-- the write of the table
abbrev pub table_write : List ℕ → Intended
table_write marks = record { place = record { drive = 16; address = 0 }; unit = marks }

-- after the batch, the table has these marks
abbrev pub HasMarksAfter : List ℕ → List Intended → Cells → Type 0
HasMarksAfter marks batch c = after c batch 16 0 ≡ Some marks

-- the marks say of each drive whether it is lost
pub record HasMarks (drives : List DriveView) (marks : List ℕ) : Type 0 where
  pub each : (d : ℕ) (v : DriveView) → slice_get drives d ≡ Some v → slice_get marks d ≡ Some (loss_mark v.lost)

-- the table has the same units but for its marks
abbrev pub SameTable : Cells → Cells → Type 0
SameTable c d = (at : ℕ) → c 16 (suc at) ≡ d 16 (suc at)

-- a vault's units and a batch are in step with the drives' saves, and have these marks; of the table the batch writes no other unit
pub record IsUpToDate (lost : List Bool) (k : Course Units) (marks : List ℕ) (batch : List Intended) (c : Cells) : Type 0 where
  pub step : IsInStep lost k batch c
  pub noted : HasMarksAfter marks batch c
  pub rest : SameTable (after c batch) c

-- units of a vault that has all that an array's drives hold, and which of them are lost
pub record IsPersisted (lost : List Bool) (drives : List DriveView) (c : Cells) : Type 0 where
  pub has : HasDrives lost drives c
  pub marks : List ℕ
  pub noted : c 16 0 ≡ Some marks
  pub reported : HasMarks drives marks

-- what a stop leaves: the units of after the first batches of a journal, `low` of them at least, or what the drives hold now, with the
-- table of before but for its marks
abbrev pub IsBeforeOrNow : List Bool → Image → ℕ → List DriveView → Image → Type 0
IsBeforeOrNow lost base low drives i = RepresentsSome lost base.cells low base.journal i
    ⊎ ((c : Cells) × Matches lost c i × IsPersisted lost drives c × SameTable c (recovered base))

-- what a vault's refusal means for a store
abbrev pub fault_of : VaultError → StoreFault
fault_of VaultError.Memory = StoreFault.Memory
fault_of VaultError.Misfit = StoreFault.Memory
fault_of VaultError.Journal = StoreFault.Sync
fault_of (VaultError.Drive d) = StoreFault.Sync

-- it holds, unless the journal failed
abbrev pub UnlessSync : Result (Unit {0}) StoreFault → Type 0 → Type 0
UnlessSync (Ok x) P = P
UnlessSync (Err StoreFault.Sync) P = Unit {0}
UnlessSync (Err StoreFault.NoSpace) P = P
UnlessSync (Err StoreFault.Gone) P = P
UnlessSync (Err StoreFault.Memory) P = P

-- it holds as long as the journal hasn't failed
abbrev pub UnlessFailed : Bool → Type 0 → Type 0
UnlessFailed failed P = failed ≡ false → P

-- the journal is empty, and each stop leaves all that the drives hold, with the table of before but for its marks
pub record IsEmptied {V : Type 0} (seen : V → Image) (may_leave : V → Stop → Image → Type 0) (lost : List Bool) (before : Cells) (vault : V) (drives : List DriveView) : Type 0 where
  pub empty : (seen vault).journal ≡ []
  pub durable : AreLogged seen may_leave lost vault
  pub kept : IsPersisted lost drives (recovered (seen vault))
  pub rest : SameTable (recovered (seen vault)) before

-- a call says that the journal failed
abbrev pub is_sync : Result (Unit {0}) StoreFault → Bool
is_sync (Ok x) = false
is_sync (Err StoreFault.Sync) = true
is_sync (Err StoreFault.NoSpace) = false
is_sync (Err StoreFault.Gone) = false
is_sync (Err StoreFault.Memory) = false

-- it holds, unless a vault's journal failed
abbrev pub UnlessJournal : Result (Unit {0}) VaultError → Type 0 → Type 0
UnlessJournal (Ok x) P = P
UnlessJournal (Err VaultError.Journal) P = Unit {0}
UnlessJournal (Err VaultError.Memory) P = P
UnlessJournal (Err VaultError.Misfit) P = P
UnlessJournal (Err (VaultError.Drive d)) P = P
