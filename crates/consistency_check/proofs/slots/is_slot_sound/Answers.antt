use Rattle.extent_groups.proofs.StoreCalls.{drives_kept}
use Rattle.consistency_check.proofs.slots.is_slot_sound.Goals as goal

pub returns-in-Some-Mirrored-clause-drives : goal.returns-in-Some-Mirrored-clause-drives
returns-in-Some-Mirrored-clause-drives g c = drives_kept c.args.groups.now c.is_mirrored_sound.ensures.touched c.requires.drives

pub returns-in_default-clause-drives : goal.returns-in_default-clause-drives
returns-in_default-clause-drives g c = drives_kept c.args.groups.now c.is_parity_sound.ensures.touched c.requires.drives
