-- An array that gets one more drive, in a vault.
use Rattle.std.specs.Prelude.{◌≡◌, ◌+◌, ◌<◌, ℕ, Bool, false, None, List}
use Rattle.extents.specs.declared.shape.Shape.{Shape}
use Rattle.extent_groups.specs.Cells.{Cells}
use Rattle.extent_groups.specs.Groups.{Groups}
use Rattle.flat_machine.specs.Flat.{Flat}
use Rattle.tiered_array.specs.Regrouping.{IsBalanceOf}
use Rattle.tiered_array.specs.Views.{TiersView}
use Rattle.byte_store.specs.Lasting.{Shown}
use Rattle.vault.specs.Images.{Image}
use Rattle.vault.specs.declared.store.Stop.{Stop}
use Rattle.array_expansion.specs.Expansion.{SameShapes}
use Rattle.array_batch.specs.Arrays.{HaveSizes}
use Rattle.array_batch.specs.Changes.{CanChange, HasArrayWith, IsBeforeOrWith, KeepsArrayWith, OpensEither, OpensWith}

-- The groups' extents are spread over so many drives, none of which is lost: the plan that balances their loads moves none.
pub record AreSpread (groups : Groups) (drives : ℕ) : Type 0 where
  pub state : Flat
  pub groups_are : state.groups ≡ groups
  pub drives_are : state.drives ≡ drives
  pub alive : (d : ℕ) → d < drives → state.lost d ≡ false
  pub even : IsBalanceOf state None

-- Groups of a shape's sizes, whose extents are spread over so many drives. Each number's group has the class and as many members as that of
-- the groups of before.
pub record AreGroupsFor (shape : Shape) (old : Groups) (drives : ℕ) (groups : Groups) : Type 0 where
  pub sizes : HaveSizes shape groups
  pub kept : SameShapes old groups
  pub spread : AreSpread groups drives

-- Units of an array on so many drives that shows this, over all of which its extents are spread, and none past the ends of the drives.
abbrev pub IsAddedIn : Shown → Shape → Groups → (drives units : ℕ) → Cells → Type 0
IsAddedIn what shape old drives units c = HasArrayWith (AreGroupsFor shape old drives) what drives units c

-- a vault has these, and each stop leaves them
abbrev pub IsAdded : {V : Type 0} → (V → Image) → (V → Stop → Image → Type 0) → Shown → Shape → Groups → (drives units : ℕ) → V → Type 0
IsAdded seen may_leave what shape old drives units vault = KeepsArrayWith seen may_leave (AreGroupsFor shape old drives) what drives units vault

-- what a stop leaves while a drive is added: the units of before, but for those of drives that aren't the array's, or those with the drive
abbrev pub IsBeforeOrAdded : List Bool → Cells → Shown → Shape → Groups → (drives units : ℕ) → Image → Type 0
IsBeforeOrAdded lost before what shape old drives units i = IsBeforeOrWith lost before (AreGroupsFor shape old (drives + 1)) what (drives + 1) units i

-- A vault that has an array that shows this, and no unit past the ends of its drives or of one more. A stop leaves all of the journal, and of
-- units only those of lost drives in doubt.
abbrev pub CanGrow : {V : Type 0} → (V → Image) → (V → Stop → Image → Type 0) → Shown → Groups → (drives units : ℕ) → List Bool → V → Type 0
CanGrow seen may_leave what groups drives units lost vault = CanChange seen may_leave what groups drives (drives + 1) units lost vault

-- a vault from which an array on so many drives is opened that shows this, over all of which its extents are spread
abbrev pub IsWholeOn : {V X : Type 0} → (TiersView → X → Type 0) → (V → Image) → (V → Stop → Image → Type 0) → X → Shape → Groups → (drives units : ℕ) → V → Type 0
IsWholeOn shows seen may_leave what shape old drives units vault = OpensWith shows seen may_leave what (AreGroupsFor shape old drives) drives units vault

-- what a stop leaves while a drive is added: an array that shows this is opened, the one of before or that with the drive
abbrev pub OpensBeforeOrWith : {X : Type 0} → (TiersView → X → Type 0) → X → Shape → Groups → ℕ → Image → Type 0
OpensBeforeOrWith shows what shape groups drives i = OpensEither shows what groups drives (AreGroupsFor shape groups (drives + 1)) (drives + 1) i
