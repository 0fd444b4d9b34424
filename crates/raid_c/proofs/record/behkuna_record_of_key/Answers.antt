use Rattle.std.proofs.Common.{rules}
use Rattle.raid_c.specs.declared.status.Status.TheVariants as is
use Rattle.raid_c.proofs.record.behkuna_record_of_key.Goals as goal

pub returns-in-Some : goal.returns-in-Some
returns-in-Some c = (is.Done, search rules, search rules)

pub returns-in-None : goal.returns-in-None
returns-in-None c = (is.Version, search rules, search rules)
