use Rattle.std.proofs.Common.{refl}
use Rattle.unit_repair.proofs.Touched.{answered, loses_none}
use Rattle.unit_repair.proofs.verify.is_right.Goals as goal

pub returns-then-not-is_touched-clause-sound : goal.returns-then-not-is_touched-clause-sound
returns-then-not-is_touched-clause-sound c = λ e site at x of on. absurd (c.if-not-is_touched.ensures.untouched refl site at x of on)

pub returns-then-not-is_touched-clause-only : goal.returns-then-not-is_touched-clause-only
returns-then-not-is_touched-clause-only c = loses_none c.args.parts.now

pub returns-clause-sound : goal.returns-clause-sound
returns-clause-sound c = λ e site at x of on. answered _ _ c.is_sound.result c.is_sound.ensures.sound e site at
