use Rattle.std.proofs.Common.{rules}
use Rattle.raid_c.specs.declared.status.Status.TheVariants as is
use Rattle.raid_c.proofs.record.behkuna_record_encode.Goals as goal

pub returns : goal.returns
returns c = (is.Done, search rules, search rules)
