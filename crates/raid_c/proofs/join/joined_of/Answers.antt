use Rattle.std.proofs.Common.{sym, subst}
use Rattle.map_join.specs.Maps.{at}
use Rattle.raid_c.specs.Lists.{AreWritten}
use Rattle.raid_c.proofs.Lists.{written}
use Rattle.raid_c.proofs.join.joined_of.Goals as goal

pub bytes_of-requires : goal.bytes_of-requires
bytes_of-requires c = subst (λ rs. AreWritten rs) (sym c.deref.ensures.value) (written (at c.in_ok-map_of.field-0) c.in_ok-list.list.items c.in_ok-list.ensures.list)
