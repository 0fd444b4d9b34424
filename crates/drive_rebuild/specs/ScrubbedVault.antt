-- What a test of all slots of an array in a vault finds.
use Rattle.std.specs.Prelude.{◌≡◌, ◌⊎◌, ◌<◌, ◌≤◌, ℕ, Bool, true, false, Some, None, List, length, slice_get}
use Rattle.extents.specs.Condition.{Held}
use Rattle.extent_groups.specs.Cells.{Cells}
use Rattle.extent_groups.specs.Groups.{Groups}
use Rattle.extent_groups.specs.Stores.{AreSound}
use Rattle.unit_store.specs.Memory.{held_lost, held_units}
use Rattle.unit_store.specs.Slots.{cells_in}
use Rattle.vault.specs.Images.{is_lost}
use Rattle.drive_rebuild.specs.Scrubbed.{ReportsUnsound}
use Rattle.array_recovery.specs.Found.{AreGone, IsTable}
use Rattle.drive_rebuild.specs.declared.scrubbed.Scrubbed.{Scrubbed}

-- drives in memory, of which the lost ones say that they are, and the others are as before
pub record AreWithoutLost (lost : List Bool) (old new : List Held) : Type 0 where
  pub many : length new ≡ length old
  pub kept : (d : ℕ) → is_lost lost d ≡ false → slice_get new d ≡ slice_get old d
  pub gone : (d : ℕ) (m : Held) → slice_get new d ≡ Some m → is_lost lost d ≡ true → held_lost m ≡ true

-- The findings report the slots that aren't sound, and no others, of what lies at the places of the first drives, each with this many units.
-- That is in memory, too. A drive is lost that the table marks, or that is absent; it holds nothing, so what it shares with others is sound.
pub record ReportsVault (groups : Groups) (drives units : ℕ) (absent : List Bool) (c : Cells) (s : Scrubbed) : Type 0 where
  pub marks : List ℕ
  pub table : IsTable marks c
  pub marked : AreGone marks absent s.lost
  pub same : s.parts.groups ≡ groups
  pub there : (d at : ℕ) → d < drives → at < units → is_lost s.lost d ≡ false → cells_in held_units held_lost s.parts d at ≡ c d at
  pub gone : (d at : ℕ) → is_lost s.lost d ≡ true → cells_in held_units held_lost s.parts d at ≡ None
  pub past : (d at : ℕ) → (drives ≤ d) ⊎ (units ≤ at) → cells_in held_units held_lost s.parts d at ≡ None
  pub reported : ReportsUnsound groups (cells_in held_units held_lost s.parts) (cells_in held_units held_lost s.parts) s.findings
  pub sound : s.findings.unsound ≡ 0 → AreSound groups (cells_in held_units held_lost s.parts)
