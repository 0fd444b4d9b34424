use Rattle.std.proofs.Common.{rules}
use Rattle.raid_c.specs.declared.status.Status.TheVariants as is
use Rattle.raid_c.proofs.geometry.behkuna_slot_count.Goals as goal

pub returns-then-not-is_group : goal.returns-then-not-is_group
returns-then-not-is_group c = (is.Range, search rules, search rules)

pub returns : goal.returns
returns c = (is.Done, search rules, search rules)
