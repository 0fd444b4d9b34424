-- Where an array's units lie in files.
use Rattle.std.specs.Prelude.{◌≡◌, ◌<◌, ◌≤◌, ℕ, get_or}
use Rattle.extent_groups.specs.Groups.{Groups}
use Rattle.extent_groups.specs.Stores.{unit_bytes}
use Rattle.file_vault.specs.declared.layout.Layout.{Layout}
use Rattle.blank_array.specs.Blank.{unit_count}

-- a layout has the units of so many drives, and a table with a byte for each drive
pub record IsLayoutOf (layout : Layout) (groups : Groups) (drives : ℕ) : Type 0 where
  pub most : drives ≤ 16
  pub bytes : layout.unit_bytes ≡ unit_bytes groups
  pub table : layout.table_bytes ≡ 16
  pub counts : (d : ℕ) → d < drives → get_or layout.counts d 0 ≡ unit_count groups
