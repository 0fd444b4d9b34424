use Rattle.std.proofs.Common.{rules}
use Rattle.raid_c.specs.declared.status.Status.TheVariants as is
use Rattle.raid_c.proofs.header.behkuna_header_encode.Goals as goal

pub returns-in-Ok : goal.returns-in-Ok
returns-in-Ok c = (is.Done, search rules, search rules)

pub returns-in-Err : goal.returns-in-Err
returns-in-Err c = (c.in-Err.status, search rules, search rules)
