-- What a plan to regroup does, stated over the flat state alone: which members are moved, and the state that it leaves.
use Rattle.std.specs.Prelude.{◌≡◌, ◌⊎◌, ℕ, ◌<◌, ◌≤◌, Bool, true, List, length, slice_index_or, Option, Some, None}
use Rattle.extents.specs.Owners.{Owners}
use Rattle.extent_groups.specs.Groups.{Agree}
use Rattle.unit_store.specs.Views.{PartsView, lost_of}
use Rattle.flat_machine.specs.declared.refusal.Refusal.TheVariants.{BadMember}
use Rattle.flat_machine.specs.Flat.{Flat}
use Rattle.flat_machine.specs.Steps.{MoveExtent, MovedExtent}
use Rattle.flat_machine.specs.Steps as step
use Rattle.flat_machine.specs.Cases.{Case}
use Rattle.rebalancer.specs.declared.shift.Shift.{Shift}
use Rattle.rebalancer.specs.Balancing.{IsBalance}
use Rattle.rebalancer.specs.Rebuilding.{IsRebuild}
use Rattle.tiered_array.specs.declared.regrouped.Regrouped.{Regrouped}
use Rattle.tiered_array.specs.declared.regrouped.Regrouped.TheVariants.{Moved, Refused, Nothing}

-- the owners of a state's extents: an extent of a group is that group's, and every other one is free
pub record AreOwners (F : Flat) (owners : Owners) : Type 0 where
  pub agree : Agree F.groups owners
  pub rows : length owners.rows ≡ F.drives
  pub wide : owners.extents ≡ F.groups.extents

-- which of sixteen drives are lost; past the last drive none is there, which counts as lost
pub record AreLost (F : Flat) (lost : List Bool) : Type 0 where
  pub many : length lost ≡ 16
  pub each : (drive : ℕ) → drive < 16 → slice_index_or lost drive true ≡ F.lost drive

-- which of sixteen drives of an array's parts are lost; past the last drive none is there, which counts as lost
pub record AreLostOf (v : PartsView) (lost : List Bool) : Type 0 where
  pub many : length lost ≡ 16
  pub each : (drive : ℕ) → drive < 16 → slice_index_or lost drive true ≡ lost_of v drive

-- the plan that rebalances the loads of a state's drives
pub record IsBalanceOf (F : Flat) (plan : Option Shift) : Type 0 where
  pub owners : Owners
  pub owners_are : AreOwners F owners
  pub lost : List Bool
  pub lost_are : AreLost F lost
  pub is : IsBalance owners F.groups lost plan

-- the plan that rebuilds what lay on one of a state's drives
pub record IsRebuildOf (F : Flat) (drive : ℕ) (plan : Option Shift) : Type 0 where
  pub owners : Owners
  pub owners_are : AreOwners F owners
  pub lost : List Bool
  pub lost_are : AreLost F lost
  pub is : IsRebuild owners F.groups lost drive plan

-- a shift: the member that it names is moved, or the move is refused
abbrev pub ShiftCase : Flat → Shift → Regrouped → Flat → Type 0
ShiftCase F s (Moved t) G = (t ≡ s) × (Case F (MoveExtent s.group s.member s.to) MovedExtent G)
ShiftCase F s (Refused r) G = Case F (MoveExtent s.group s.member s.to) (step.Refused r) G
ShiftCase F s Nothing G = ⊥

-- rebalancing: the shift of the plan, or nothing where there is none
abbrev pub BalanceCase : Flat → Regrouped → Flat → Type 0
BalanceCase F Nothing G = (IsBalanceOf F None) × (G ≡ F)
BalanceCase F outcome G = (s : Shift) × (IsBalanceOf F (Some s)) × (ShiftCase F s outcome G)

-- rebuilding: the shift of the plan, or nothing where there is none; refused as a bad member where there is no such drive
abbrev pub RebuildCase : Flat → ℕ → Regrouped → Flat → Type 0
RebuildCase F drive Nothing G = (drive < F.drives) × (IsRebuildOf F drive None) × (G ≡ F)
RebuildCase F drive (Refused r) G =
    ((F.drives ≤ drive) × (r ≡ BadMember) × (G ≡ F))
    ⊎ ((drive < F.drives) × ((s : Shift) × (IsRebuildOf F drive (Some s)) × (ShiftCase F s (Refused r) G)))
RebuildCase F drive (Moved t) G = (drive < F.drives) × ((s : Shift) × (IsRebuildOf F drive (Some s)) × (ShiftCase F s (Moved t) G))

-- where a member was moved
abbrev pub IfMoved : Regrouped → Type 0 → Type 0
IfMoved (Moved s) p = p
IfMoved _ p = Unit {0}
