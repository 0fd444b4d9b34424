use Rattle.parity_store.proofs.Laid.{laid}
use Rattle.consistency_check.proofs.Testing.{tested}
use Rattle.consistency_check.proofs.slots.is_parity_sound.Goals as goal

pub is_row_sound-requires-clause-laid : goal.is_row_sound-requires-clause-laid
is_row_sound-requires-clause-laid g c = laid g.D.Drive.units c.args.groups.now c.args.drives.now _ _ _ c.requires.drives c.requires.unit c.row_of-at.ensures.inside

pub returns-clause-sound : goal.returns-clause-sound
returns-clause-sound g c = tested c.args.groups.now _ c.args.slot _ _ c.is_row_sound.result c.row_of-at.ensures.site c.requires.unit c.is_row_sound.ensures.sound
