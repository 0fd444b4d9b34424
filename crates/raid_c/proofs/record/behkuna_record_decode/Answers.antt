use Rattle.std.proofs.Common.{rules}
use Rattle.raid_c.specs.declared.status.Status.TheVariants as is
use Rattle.raid_c.proofs.record.behkuna_record_decode.Goals as goal

pub returns-in-Ok : goal.returns-in-Ok
returns-in-Ok c = (is.Done, search rules, search rules)

pub returns-in-Err-Length : goal.returns-in-Err-Length
returns-in-Err-Length c = (is.Length, search rules, search rules)

pub returns-in-Err-ZeroVersion : goal.returns-in-Err-ZeroVersion
returns-in-Err-ZeroVersion c = (is.Version, search rules, search rules)
