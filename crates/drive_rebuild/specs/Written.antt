-- What a rebuild leaves in a vault: units of lost drives alone were written.
use Rattle.std.specs.Prelude.{◌≡◌, ◌≢◌, ◌<◌, ℕ, Bool, true, false, is_some, List, [], slice_set}
use Rattle.extent_groups.specs.declared.place.Place.{Place}
use Rattle.extent_groups.specs.Cells.{held}
use Rattle.vault.specs.Images.{Image, Matches, SameOn, is_lost, recovered}
use Rattle.vault.specs.Moments.{AreLogged, LeavesOnly}
use Rattle.vault.specs.declared.store.Stop.{Stop}
use Rattle.array_recovery.specs.Found.{is_marked}

-- of the first drives the table marks this one, and no other
pub record IsOnlyMarked (marks : List ℕ) (drives number : ℕ) : Type 0 where
  pub inside : number < drives
  pub marked : is_marked marks number ≡ true
  pub others : (d : ℕ) → d < drives → d ≢ number → is_marked marks d ≡ false

-- the marks without that of a drive
abbrev pub unmarked : List ℕ → ℕ → List ℕ
unmarked marks number = slice_set marks number 0

-- Only units of lost drives were written, and what a stop at any moment leaves stands for the units of before, but for theirs. There
-- is a unit where one was.
pub record WroteLost {V : Type 0} (seen : V → Image) (may_leave : V → Stop → Image → Type 0) (moment : V → ℕ) (left_since : V → Stop → ℕ → Image → Type 0)
    (lost : List Bool) (old new : V) : Type 0 where
  pub journal : (seen new).journal ≡ (seen old).journal
  pub there : (x : Place) → is_some (held (seen new).cells x) ≡ is_some (held (seen old).cells x)
  pub cells : SameOn lost (seen new).cells (seen old).cells
  pub leaves : AreLogged seen may_leave lost old → AreLogged seen may_leave lost new
  pub moments : AreLogged seen may_leave lost old → (stop : Stop) → LeavesOnly moment left_since stop old new (Matches lost (recovered (seen old)))

-- a drive is among the lost ones, and the others of these are those that don't count
pub record AreLostWith (lost counts : List Bool) (number : ℕ) : Type 0 where
  pub gone : is_lost lost number ≡ true
  pub rest : (d : ℕ) → is_lost lost d ≡ false → is_lost counts d ≡ false

-- The journal is empty, and each stop leaves what calls find: the units of before, but for those of lost drives. Of the drives that
-- count there is a unit where one was.
pub record IsReadyToWrite {V : Type 0} (seen : V → Image) (may_leave : V → Stop → Image → Type 0) (lost counts : List Bool) (old new : V) : Type 0 where
  pub empty : (seen new).journal ≡ []
  pub durable : AreLogged seen may_leave counts new
  pub cells : SameOn lost (seen new).cells (recovered (seen old))
  pub there : (x : Place) → is_lost counts x.drive ≡ false → is_some (held (seen new).cells x) ≡ is_some (held (recovered (seen old)) x)
