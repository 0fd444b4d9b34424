use Rattle.std.proofs.Common.{refl}
use Rattle.unit_repair.proofs.Verified.{sound_back}
use Rattle.unit_repair.proofs.verify.test_parts.Goals as goal

pub returns-clause-sound : goal.returns-clause-sound
returns-clause-sound c = sound_back c.args.parts c.find_unsound.new.parts c.find_unsound.ensures.only c.requires (c.in-None.ensures.none refl)
