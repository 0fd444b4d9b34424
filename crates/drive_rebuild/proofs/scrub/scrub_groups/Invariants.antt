use Rattle.std.proofs.Common.{◌≡◌, ◌*◌, [], length}
use Rattle.extent_groups.specs.Stores.{unit_bytes}
use Rattle.unit_store.specs.Fit.{IsFit}
use Rattle.unit_store.specs.Losses.{LosesOnly}
use Rattle.unit_store.specs.Slots.{cells_in}
use Rattle.drive_rebuild.specs.Scrubbed.{ReportsSlots, ReportsBelow, slot_total}
use Rattle.drive_rebuild.proofs.scrub.scrub_groups.Given as goal

abbrev pub invariant-loop-group : goal.invariant-loop-group
invariant-loop-group g l = record {
  fit : IsFit g.D.Drive.units l.parts;
  groups : l.parts.groups ≡ l.fn.parts.groups;
  only : LosesOnly g.D.Drive.units g.D.Drive.lost g.D.Drive.failures l.fn.parts l.parts;
  unit : length l.unit ≡ unit_bytes l.fn.parts.groups;
  other : length l.other ≡ unit_bytes l.fn.parts.groups;
  reported : ReportsSlots (slot_total l.fn.parts.groups) [] l.fn.findings
      → ReportsBelow l.fn.parts.groups (cells_in g.D.Drive.units g.D.Drive.lost l.fn.parts) (cells_in g.D.Drive.units g.D.Drive.lost l.parts)
      (slot_total l.fn.parts.groups) (128 * l.group) l.findings;
}
