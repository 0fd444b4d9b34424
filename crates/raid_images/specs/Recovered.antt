-- The array that drives hold.
use Rattle.extents.specs.Condition.{Held}
use Rattle.unit_store.specs.declared.parts.Parts.{Parts}
use Rattle.unit_store.specs.Losses.{LosesOnly}
use Rattle.unit_store.specs.Memory.{held_units, held_lost, held_failures}
use Rattle.slot_tables.specs.Views.{ArrayView}
use Rattle.header_scan.specs.Restarts.{AreAllSound, RepresentsOne, WasMade}

-- the array was rebuilt from the headers of these parts, less the drives that were lost in the call: the parts are sound, and the
-- array represents a state whose groups, drives and units they are
pub record IsRecovered (parts : Parts Held) (array : ArrayView) : Type 0 where
  pub left : Parts Held
  pub loses : LosesOnly held_units held_lost held_failures parts left
  pub sound : AreAllSound held_units held_lost left
  pub made : WasMade held_units held_lost held_failures left array
  pub shows : RepresentsOne held_units held_lost held_failures left array
