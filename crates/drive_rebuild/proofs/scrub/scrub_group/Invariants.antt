use Rattle.std.proofs.Common.{◌≡◌, ◌+◌, ◌*◌, ℕ, length}
use Rattle.extent_groups.specs.declared.place.Place.{Place}
use Rattle.extent_groups.specs.Calls.{FadesAt}
use Rattle.extent_groups.specs.Cells.{Cells}
use Rattle.extent_groups.specs.Stores.{unit_bytes}
use Rattle.unit_store.specs.Fit.{IsFit}
use Rattle.unit_store.specs.Losses.{LosesOnly}
use Rattle.unit_store.specs.Slots.{cells_in}
use Rattle.drive_rebuild.specs.Scrubbed.{ReportsBelow}
use Rattle.drive_rebuild.proofs.scrub.scrub_group.Given as goal

abbrev pub invariant-loop-index : goal.invariant-loop-index
invariant-loop-index g l = record {
  fit : IsFit g.D.Drive.units l.parts;
  groups : l.parts.groups ≡ l.fn.parts.groups;
  only : LosesOnly g.D.Drive.units g.D.Drive.lost g.D.Drive.failures l.fn.parts l.parts;
  unit : length l.unit ≡ unit_bytes l.fn.parts.groups;
  other : length l.other ≡ unit_bytes l.fn.parts.groups;
  reported : (before : Cells) (total : ℕ) → ((x : Place) → FadesAt before (cells_in g.D.Drive.units g.D.Drive.lost l.fn.parts) x)
      → ReportsBelow l.fn.parts.groups before (cells_in g.D.Drive.units g.D.Drive.lost l.fn.parts) total (128 * l.fn.group) l.fn.findings
      → ReportsBelow l.fn.parts.groups before (cells_in g.D.Drive.units g.D.Drive.lost l.parts) total (128 * l.fn.group + l.index) l.findings;
}
