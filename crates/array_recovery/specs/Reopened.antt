-- What is found again of an array that a vault has.
use Rattle.std.specs.Prelude.{◌≡◌, ◌==◌, ◌||◌, ◌<◌, ◌≤◌, ℕ, Bool, true, false, not, None, List, [], length, map}
use Rattle.extent_groups.specs.Cells.{Cells}
use Rattle.extent_groups.specs.Calls.{FadesAt}
use Rattle.extent_groups.specs.declared.place.Place.{Place}
use Rattle.extent_groups.specs.Groups.{Groups}
use Rattle.unit_store.specs.Views.{PartsView, drive_cells, lost_of}
use Rattle.tiered_array.specs.Views.{TiersView}
use Rattle.vault.specs.Images.{Image, is_lost, recovered}
use Rattle.vault.specs.Moments.{AreLogged}
use Rattle.vault.specs.declared.store.Stop.{Stop}
use Rattle.journaled_store.specs.Left.{IsLeftOf}
use Rattle.journaled_store.specs.Outlasting.{parts_of}
use Rattle.array_recovery.specs.Found.{is_marked}

-- The same groups and as many drives; each place holds what it held, or its drive is lost.
pub record Outlives (old new : PartsView) : Type 0 where
  pub groups : new.groups ≡ old.groups
  pub many : length new.drives ≡ length old.drives
  pub fades : (x : Place) → FadesAt (drive_cells old) (drive_cells new) x

-- each drive that the table marks, and each that is absent, is among these
abbrev pub CoversGone : ℕ → List ℕ → List Bool → List Bool → Type 0
CoversGone count marks absent lost = (d : ℕ) → d < count → (is_marked marks d || is_lost absent d) ≡ true → is_lost lost d ≡ true

-- a vault has no unit past the end of a drive that isn't lost
abbrev pub EndsAt : List Bool → (drives units : ℕ) → Cells → Type 0
EndsAt lost drives units c = (d at : ℕ) → d < drives → is_lost lost d ≡ false → units ≤ at → c d at ≡ None

-- the same groups and as many drives; a drive that was lost is lost
pub record LosesMore (old new : PartsView) : Type 0 where
  pub groups : new.groups ≡ old.groups
  pub many : length new.drives ≡ length old.drives
  pub lost : (d : ℕ) → lost_of old d ≡ true → lost_of new d ≡ true

-- an array that was opened with these groups and so many drives: each drive that the table marks, and each that is absent, is lost
pub record IsOpenedWith (groups : Groups) (count : ℕ) (marks : List ℕ) (absent : List Bool) (tiers : TiersView) : Type 0 where
  pub groups_are : (parts_of tiers).groups ≡ groups
  pub many : length (parts_of tiers).drives ≡ count
  pub gone : (d : ℕ) → (is_marked marks d || is_lost absent d) ≡ true → lost_of (parts_of tiers) d ≡ true

-- which drives the table marks
abbrev pub marked : List ℕ → List Bool
marked marks = map (λ mark. not (mark == 0)) marks

-- A vault of which a store that shows this is opened, on a shape with this many units a drive, and outlasts the next stop. What a
-- store shows is given, as for `IsLeftOf`.
pub record IsSoundFor {V X : Type 0} (shows : TiersView → X → Type 0) (seen : V → Image) (may_leave : V → Stop → Image → Type 0) (what : X) (groups : Groups) (drives units : ℕ) (absent : List Bool) (vault : V) : Type 0 where
  -- it has all of an array that showed this; a drive of which it may have other units was lost in that array
  pub left : IsLeftOf shows what groups drives [] (recovered (seen vault))
  -- a drive that is absent was lost in that array: the table marks it
  pub away : (d : ℕ) → d < drives → is_lost absent d ≡ true → is_marked left.kept.marks d ≡ true
  -- past the end of a drive without a mark it has no unit
  pub ends : EndsAt (marked left.kept.marks) drives units (recovered (seen vault))
  -- a stop leaves what calls find, but for units of drives with a mark and those that the journal's batches write
  pub logged : AreLogged seen may_leave (marked left.kept.marks) vault
