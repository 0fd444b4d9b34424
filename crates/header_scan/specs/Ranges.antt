-- Scans of parts of the slots.
use Rattle.std.specs.Prelude.{◌↔◌, ◌≢◌, ℕ, ◌<◌, ◌⊎◌, Option, List}
use Rattle.map_join.specs.declared.records.Record.{Record}
use Rattle.map_join.specs.Record.{stamp_in}
use Rattle.extent_groups.specs.Groups.{Groups}
use Rattle.extent_groups.specs.Cells.{Cells}
use Rattle.extent_groups.specs.Stores.{unit_of, KeepsUnits}
use Rattle.flat_machine.specs.Scanned.{HasHeader, IsScanned}
use Rattle.header_scan.specs.declared.fault.ScanFault.{ScanFault}
use Rattle.header_scan.specs.Faults.{SlotUnits, between, AreFine, IsFirstFault, IsTwice}

-- two parts make up the whole: each header of the whole is one of theirs, and each of theirs one of the whole
abbrev pub MakeUp : (whole one other : ℕ → Option (List ℕ)) → Type 0
MakeUp whole one other = (slot : ℕ) (r : Record) → HasHeader whole slot r ↔ (HasHeader one slot r ⊎ HasHeader other slot r)

-- the map of the slots from `low` on and below `high`, whose headers are all fine: clauses `map` and `fine` of a scan of the
-- range that returned this map, over what the drives held when it began
pub record IsMapOfRange (groups : Groups) (c : Cells) (low high : ℕ) (M : ℕ → ℕ) : Type 0 where
  pub map : IsScanned (between low high (unit_of groups c)) M
  pub fine : AreFine groups low high (unit_of groups c)

-- no block's greatest stamp is at two of these slots: clause `once` of a scan of the range that returned a map
abbrev pub HasNoTwice : SlotUnits → Type 0
HasNoTwice bytes = (b p q : ℕ) → IsTwice bytes b p q → ⊥

-- no block has one stamp in both maps
abbrev pub ShareNoStamp : (ℕ → ℕ) → (ℕ → ℕ) → Type 0
ShareNoStamp M N = (b : ℕ) → 0 < M b → stamp_in (M b) ≢ stamp_in (N b)

-- why a scan of two ranges, one after the other, gives no map: the first fault of the first range, or else that of the second,
-- over the units that the first scan left. Out of memory may come before.
abbrev pub IsFaultOfRanges : Groups → (low middle high : ℕ) → Cells → Cells → ScanFault → Type 0
IsFaultOfRanges groups low middle high start left fault =
    IsFirstFault groups low middle (unit_of groups start) (unit_of groups left) fault
    ⊎ ((c : Cells) × KeepsUnits groups start c × IsFirstFault groups middle high (unit_of groups c) (unit_of groups left) fault)
