-- What is read of a vault's table.
use Rattle.std.specs.Prelude.{◌≡◌, ℕ, suc, true, is_some, Option, Some, List, slice_get}
use Rattle.extent_groups.specs.Cells.{Cells}
use Rattle.vault.specs.Images.{Image}
use Rattle.vault.specs.Moments.{Elapses}
use Rattle.vault.specs.declared.store.Stop.{Stop}

-- a vault was only read: later calls find what they found before, and a stop leaves what it left before
pub record OnlyReadsVault {V : Type 0} (seen : V → Image) (may_leave : V → Stop → Image → Type 0) (moment : V → ℕ) (left_since : V → Stop → ℕ → Image → Type 0) (old new : V) : Type 0 where
  pub finds : seen new ≡ seen old
  pub time : (stop : Stop) → Elapses (moment old) (moment new) (left_since old stop) (left_since new stop) (may_leave old stop) (may_leave new stop)

-- Units of the table from address 1 on, as far as they are known. There is one at each of these addresses.
pub record AreKnownOf (units : List (Option (List ℕ))) (c : Cells) : Type 0 where
  pub each : (u : ℕ) (unit : List ℕ) → slice_get units u ≡ Some (Some unit) → c 16 (suc u) ≡ Some unit
  pub there : (u : ℕ) (o : Option (List ℕ)) → slice_get units u ≡ Some o → is_some (c 16 (suc u)) ≡ true

-- units are those of the table from address 1 on
pub record AreUnitsOf (units : List (List ℕ)) (c : Cells) : Type 0 where
  pub each : (u : ℕ) (unit : List ℕ) → slice_get units u ≡ Some unit → c 16 (suc u) ≡ Some unit
