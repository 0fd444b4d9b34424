-- A change of an array's groups: when it may be made, and the groups that it leaves.
use Rattle.std.specs.Prelude.{◌≡◌, ◌≢◌, ◌*◌, ℕ, Some, None, [], ◌∷◌, slice_get}
use Rattle.extents.specs.Sizes.{extent_units}
use Rattle.extents.specs.declared.shape.Shape.{Shape}
use Rattle.extent_groups.specs.Groups.{Groups, group_at, members_of, swapped_in, with_group}
use Rattle.flat_machine.specs.Groups.{AreApart, AreMembers, AreUnowned, IsLowestFree}
use Rattle.flat_machine.specs.Moves.{IsMoveTarget}
use Rattle.tiered_array.specs.Views.{TiersView}
use Rattle.vault.specs.Images.{Image, recovered}
use Rattle.vault.specs.declared.store.Stop.{Stop}
use Rattle.journaled_store.specs.Outlasting.{OpensAs}
use Rattle.array_batch.specs.Arrays.{HaveSizes}
use Rattle.array_batch.specs.Changes.{OpensEither, OpensWith}
use Rattle.group_changes.specs.declared.change.GroupChange.{GroupChange}
use Rattle.group_changes.specs.declared.change.GroupChange.TheVariants.{Make, Dissolve, Move}

-- The groups after a change: one number's group is made, dissolved, or has another extent as one of its members. All others stay, and so do
-- the sizes.
abbrev pub groups_after : GroupChange → Groups → Groups
groups_after (Make g class members) groups = with_group groups g (Some (record { class = class; members = members.items }))
groups_after (Dissolve g) groups = with_group groups g None
groups_after (Move g k to) groups = with_group groups g (swapped_in (group_at groups g) k to)

-- The change can be made of groups on so many drives. A group is made under the lowest free number, of three to eight extents of no group, on
-- different drives. One that is dissolved is there. A member that is moved is there, and goes onto an extent of no group, on a drive without a
-- member of its own.
abbrev pub CanBeMade : GroupChange → Groups → ℕ → Type 0
CanBeMade (Make g class members) groups drives =
    IsLowestFree groups g × AreMembers groups.extents drives members.items × AreApart members.items × AreUnowned groups members.items
CanBeMade (Dissolve g) groups drives = group_at groups g ≢ None
CanBeMade (Move g k to) groups drives = (slice_get (members_of groups g) k ≢ None) × IsMoveTarget groups drives g to

-- groups of a shape's sizes that a change leaves of those of before, of which it can be made, on so many drives
pub record IsChanged (change : GroupChange) (shape : Shape) (drives : ℕ) (old new : Groups) : Type 0 where
  pub can : CanBeMade change old drives
  pub new_are : new ≡ groups_after change old
  pub sizes : HaveSizes shape new

-- how many units a drive of a shape has
abbrev pub units_of : Shape → ℕ
units_of shape = shape.extents * extent_units shape.segments

-- a vault from which an array that shows this is opened, on so many drives, with the groups that the change leaves of those of before
abbrev pub IsWholeAfter : {V X : Type 0} → (TiersView → X → Type 0) → (V → Image) → (V → Stop → Image → Type 0) → X → GroupChange → Shape → Groups → ℕ → V → Type 0
IsWholeAfter shows seen may_leave what change shape old drives vault = OpensWith shows seen may_leave what (IsChanged change shape drives old) drives (units_of shape) vault

-- what a stop leaves where nothing was changed
abbrev pub OpensBefore : {X : Type 0} → (TiersView → X → Type 0) → X → Groups → ℕ → Image → Type 0
OpensBefore shows what groups drives i = OpensAs shows (what ∷ []) groups drives (recovered i)

-- what a stop leaves while the groups are changed: an array that shows this is opened, the one of before or that with the new groups
abbrev pub OpensBeforeOrAfter : {X : Type 0} → (TiersView → X → Type 0) → X → GroupChange → Shape → Groups → ℕ → Image → Type 0
OpensBeforeOrAfter shows what change shape groups drives i = OpensEither shows what groups drives (IsChanged change shape drives groups) drives i
