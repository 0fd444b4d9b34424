use Rattle.std.proofs.Common.{inl, inr, refl}
use Rattle.extent_groups.proofs.Sites.{site_places}
use Rattle.consistency_check.proofs.Testing.{tested}
use Rattle.consistency_check.proofs.slots.is_mirrored_sound.Goals as goal

pub is_pair_sound-requires-clause-first : goal.is_pair_sound-requires-clause-first
is_pair_sound-requires-clause-first g c =
    site_places g.D.Drive.units c.args.groups.now c.args.drives.now c.args.slot _ c.pair_of.ensures.groups c.requires.drives c.pair_of.ensures.site c.pair_of.result.0 (inl refl)

pub is_pair_sound-requires-clause-second : goal.is_pair_sound-requires-clause-second
is_pair_sound-requires-clause-second g c =
    site_places g.D.Drive.units c.args.groups.now c.args.drives.now c.args.slot _ c.pair_of.ensures.groups c.requires.drives c.pair_of.ensures.site c.pair_of.result.1 (inr refl)

pub returns-clause-sound : goal.returns-clause-sound
returns-clause-sound g c = tested c.args.groups.now _ c.args.slot _ _ c.is_pair_sound.result c.pair_of.ensures.site c.requires.unit c.is_pair_sound.ensures.sound
