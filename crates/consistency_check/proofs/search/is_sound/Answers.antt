use Rattle.std.proofs.Common.{sym, subst}
use Rattle.extent_groups.specs.Cells.{cells}
use Rattle.unit_store.proofs.Reading.{fares_back, written_back}
use Rattle.consistency_check.specs.Sound.{IsAnswer}
use Rattle.consistency_check.proofs.search.is_sound.Goals as goal

pub returns-clause-sound : goal.returns-clause-sound
returns-clause-sound g c =
    subst (λ ds. IsAnswer c.args.parts.now.groups (cells g.D.Drive.units g.D.Drive.lost ds) c.args.slot c.is_slot_sound.result)
    (sym (written_back c.args.parts.now.drives c.deref_mut-drives.result.now c.is_slot_sound.new.drives c.deref_mut-drives.ensures.value c.is_slot_sound.ensures.touched.many)) c.is_slot_sound.ensures.sound

pub returns-clause-fares : goal.returns-clause-fares
returns-clause-fares g c = fares_back c.args.parts.now.drives c.deref_mut-drives.result.now c.is_slot_sound.new.drives c.deref_mut-drives.ensures.value c.is_slot_sound.ensures.touched
