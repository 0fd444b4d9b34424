-- What making a group changes in what is seen of an array.
use Rattle.std.specs.Prelude.{List, length, Option, Some, None}
use Rattle.extent_groups.specs.declared.class.Member.{Member}
use Rattle.extent_groups.specs.declared.refusal.GroupRefusal.{GroupRefusal}
use Rattle.extent_groups.specs.declared.refusal.GroupRefusal.TheVariants as fault
use Rattle.unit_store.specs.Views.{lost_of}
use Rattle.flat_machine.specs.declared.refusal.Refusal.{Refusal}
use Rattle.flat_machine.specs.declared.refusal.Refusal.TheVariants.{BadMember, SameDrive, ExtentTaken, DriveLost}
use Rattle.flat_machine.specs.Groups.{AreMembers, AreApart, AreUnowned, ArePresent, IsFirstLost}
use Rattle.slot_tables.specs.Views.{ArrayView}

-- a fault of the members as a refusal of the array, where they are three to eight
abbrev pub reported_of : Option GroupRefusal → Option Refusal
reported_of None = None
reported_of (Some fault.SameDrive) = Some SameDrive
reported_of (Some _) = Some ExtentTaken

-- why members make no group, lost drives aside
abbrev pub IsPutReason : ArrayView → List Member → Option Refusal → Type 0
IsPutReason a members (Some SameDrive) = AreMembers a.parts.groups.extents (length a.parts.drives) members × (AreApart members → ⊥)
IsPutReason a members (Some ExtentTaken) = AreMembers a.parts.groups.extents (length a.parts.drives) members × AreApart members × (AreUnowned a.parts.groups members → ⊥)
IsPutReason a members None = AreMembers a.parts.groups.extents (length a.parts.drives) members × AreApart members × AreUnowned a.parts.groups members
IsPutReason a members (Some _) = ⊥

-- why a group of these members can't be made, a free number aside
abbrev pub IsMakeReason : ArrayView → List Member → Option Refusal → Type 0
IsMakeReason a members (Some BadMember) = AreMembers a.parts.groups.extents (length a.parts.drives) members → ⊥
IsMakeReason a members (Some SameDrive) = AreMembers a.parts.groups.extents (length a.parts.drives) members × (AreApart members → ⊥)
IsMakeReason a members (Some ExtentTaken) = AreMembers a.parts.groups.extents (length a.parts.drives) members × AreApart members × (AreUnowned a.parts.groups members → ⊥)
IsMakeReason a members (Some (DriveLost d)) = AreMembers a.parts.groups.extents (length a.parts.drives) members × AreApart members × AreUnowned a.parts.groups members × IsFirstLost (lost_of a.parts) members d
IsMakeReason a members None = AreMembers a.parts.groups.extents (length a.parts.drives) members × AreApart members × AreUnowned a.parts.groups members × ArePresent (lost_of a.parts) members
IsMakeReason a members (Some _) = ⊥
