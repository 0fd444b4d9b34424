use Rattle.std.proofs.Common.{◌+◌, ◌*◌, ◌∙◌, ℕ, arith, refl, subst}
use Rattle.unit_store.specs.Slots.{cells_in}
use Rattle.unit_store.specs.Laws.{loses_more, loses_none}
use Rattle.extent_groups.proofs.Losses.{kept_fades}
use Rattle.consistency_check.specs.Sound.{IsAnswer}
use Rattle.drive_rebuild.specs.Scrubbed.{ReportsBelow, with_tested}
use Rattle.drive_rebuild.proofs.Scrubbing.{fades_more, group_end, one_more}
use Rattle.drive_rebuild.proofs.scrub.scrub_group.Goals as goal

pub loop-index-init : goal.loop-index-init
loop-index-init g c = record {
  fit = c.requires.fit;
  groups = refl;
  only = loses_none g.D.Drive.units g.D.Drive.lost g.D.Drive.failures c.args.parts.now;
  unit = c.requires.unit;
  other = c.requires.other;
  reported = λ before total fades was.
      subst (λ bound. ReportsBelow c.args.parts.now.groups before (cells_in g.D.Drive.units g.D.Drive.lost c.args.parts.now) total bound c.args.findings.now) (omega arith) was;
}

pub loop-index-preserved : goal.loop-index-preserved
loop-index-preserved g c = record {
  fit = c.is_sound-is_sound.ensures.fit;
  groups = c.is_sound-is_sound.ensures.only.tables.groups ∙ c.loop-index.invariant.groups;
  only = loses_more g.D.Drive.units g.D.Drive.lost g.D.Drive.failures c.args.parts.now c.loop-index.parts c.is_sound-is_sound.new.parts c.loop-index.invariant.only c.is_sound-is_sound.ensures.only;
  unit = c.is_sound-is_sound.auto.unit ∙ c.loop-index.invariant.unit;
  other = c.is_sound-is_sound.auto.other ∙ c.loop-index.invariant.other;
  reported = λ before total fades was.
      let so = c.loop-index.invariant.reported before total fades was in
      let slot : ℕ = 128 * c.args.group + c.loop-index.index in
      let sound = c.is_sound-is_sound.result in
      let lose = kept_fades c.is_sound-is_sound.ensures.only.drives in
      let earlier = fades_more before _ _ (fades_more before _ _ fades (kept_fades c.loop-index.invariant.only.drives)) lose in
      let answer = subst (λ t. IsAnswer t (cells_in g.D.Drive.units g.D.Drive.lost c.is_sound-is_sound.new.parts) slot sound)
      (c.is_sound-is_sound.ensures.only.tables.groups ∙ c.loop-index.invariant.groups) c.is_sound-is_sound.ensures.sound in
      record {
        slots = with_tested so.slots slot sound;
        are = one_more c.args.parts.now.groups before _ _ slot (128 * c.args.group + (c.loop-index.index + 1)) so.slots sound (omega arith) earlier lose answer so.are;
        reported = c.in_ok-note.ensures.reported total so.slots so.are.few so.reported;
      };
}

pub returns-in_err-note-clause-only : goal.returns-in_err-note-clause-only
returns-in_err-note-clause-only g c =
    loses_more g.D.Drive.units g.D.Drive.lost g.D.Drive.failures c.args.parts.now c.loop-index.parts c.is_sound-is_sound.new.parts c.loop-index.invariant.only c.is_sound-is_sound.ensures.only

pub returns-clause-only : goal.returns-clause-only
returns-clause-only g c = c.loop-index.invariant.only

pub returns-clause-reported : goal.returns-clause-reported
returns-clause-reported g c = λ before total fades was.
    let so = c.loop-index.invariant.reported before total fades was in
    record {
      slots = so.slots;
      are = group_end c.args.parts.now.groups before _ c.args.group c.loop-index.index _ so.slots c.requires.fit.groups
          (omega (arith, c.loop-index.auto.index-end, c.loop-index-test.false, c.slots_of-index-end.ensures.count)) (omega arith) so.are;
      reported = so.reported;
    }
