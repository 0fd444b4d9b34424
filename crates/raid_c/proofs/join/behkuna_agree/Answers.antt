use Rattle.std.proofs.Common.{rules, refl}
use Rattle.map_join.specs.Maps.{at}
use Rattle.raid_c.specs.declared.status.Status.TheVariants as is
use Rattle.raid_c.proofs.join.behkuna_agree.Goals as goal

pub returns-in_default : goal.returns-in_default
returns-in_default c = (is.Done, search rules, (at c.in-Ok.map, at c.in-Ok-map_of.map, c.in-Ok.ensures.ok, c.in-Ok-map_of.ensures.ok, search rules, refl))
