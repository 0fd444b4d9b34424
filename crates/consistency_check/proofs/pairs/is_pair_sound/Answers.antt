use Rattle.std.proofs.Common.{rules, length}
use Rattle.consistency_check.proofs.Testing.{pair_sound}
use Rattle.consistency_check.proofs.pairs.is_pair_sound.Goals as goal

pub returns-clause-sound : goal.returns-clause-sound
returns-clause-sound g c =
    pair_sound (length c.args.unit.now) _ _ _ c.args.first c.args.second c.read_place.new.unit c.read_place-2.new.unit c.eq.result c.if-not-read_place.ensures.read c.if-not-read_place-2.ensures.read (search rules) (search rules)
