use Rattle.std.proofs.Common.{◌+◌, ◌*◌, ◌∙◌, [], arith, refl, subst, sym}
use Rattle.unit_store.specs.Slots.{cells_in}
use Rattle.unit_store.specs.Laws.{loses_more, loses_none}
use Rattle.extent_groups.proofs.Losses.{kept_fades}
use Rattle.drive_rebuild.specs.Scrubbed.{ReportsBelow, slot_total}
use Rattle.drive_rebuild.proofs.Scrubbing.{all_groups, none_below}
use Rattle.drive_rebuild.proofs.scrub.scrub_groups.Goals as goal

pub loop-group-init : goal.loop-group-init
loop-group-init g c = record {
  fit = c.requires.fit;
  groups = refl;
  only = loses_none g.D.Drive.units g.D.Drive.lost g.D.Drive.failures c.args.parts.now;
  unit = c.requires.unit;
  other = c.requires.other;
  reported = λ reported. record { slots = []; are = none_below c.args.parts.now.groups _ _; reported = reported };
}

pub loop-group-preserved : goal.loop-group-preserved
loop-group-preserved g c = record {
  fit = c.scrub_group.ensures.fit;
  groups = c.scrub_group.ensures.only.tables.groups ∙ c.loop-group.invariant.groups;
  only = loses_more g.D.Drive.units g.D.Drive.lost g.D.Drive.failures c.args.parts.now c.loop-group.parts c.scrub_group.new.parts c.loop-group.invariant.only c.scrub_group.ensures.only;
  unit = c.scrub_group.auto.unit ∙ c.loop-group.invariant.unit;
  other = c.scrub_group.auto.other ∙ c.loop-group.invariant.other;
  reported = λ reported.
      let same = c.loop-group.invariant.groups in
      let so = c.loop-group.invariant.reported reported in
      let before = cells_in g.D.Drive.units g.D.Drive.lost c.args.parts.now in
      let total = slot_total c.args.parts.now.groups in
      let old = subst (λ t. ReportsBelow t before (cells_in g.D.Drive.units g.D.Drive.lost c.loop-group.parts) total (128 * c.loop-group.group) c.loop-group.findings) (sym same) so in
      let new = c.in_ok-scrub_group.ensures.reported before total (kept_fades c.loop-group.invariant.only.drives) old in
      subst (λ b. ReportsBelow c.args.parts.now.groups before (cells_in g.D.Drive.units g.D.Drive.lost c.scrub_group.new.parts) total b c.scrub_group.new.findings) (omega arith)
      (subst (λ t. ReportsBelow t before (cells_in g.D.Drive.units g.D.Drive.lost c.scrub_group.new.parts) total (128 * c.loop-group.group + 128) c.scrub_group.new.findings) same new);
}

pub returns-in_err-scrub_group-clause-only : goal.returns-in_err-scrub_group-clause-only
returns-in_err-scrub_group-clause-only g c =
    loses_more g.D.Drive.units g.D.Drive.lost g.D.Drive.failures c.args.parts.now c.loop-group.parts c.scrub_group.new.parts c.loop-group.invariant.only c.scrub_group.ensures.only

pub returns-clause-only : goal.returns-clause-only
returns-clause-only g c = c.loop-group.invariant.only

pub returns-clause-reported : goal.returns-clause-reported
returns-clause-reported g c = λ reported.
    let so = c.loop-group.invariant.reported reported in
    record {
      slots = so.slots;
      are = all_groups c.args.parts.now.groups _ _ _ so.slots c.requires.fit.groups (omega (arith, c.loop-group-test.false, c.loop-group.auto.group-end)) so.are;
      reported = so.reported;
    }
