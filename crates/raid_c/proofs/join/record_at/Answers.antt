use Rattle.std.proofs.Common.{refl}
use Rattle.raid_c.proofs.Lists.{zero_version}
use Rattle.raid_c.proofs.join.record_at.Goals as goal

pub returns-in-Err-clause-err : goal.returns-in-Err-clause-err
returns-in-Err-clause-err c = (refl, zero_version c.args.records.now c.args.index c.in-Err.field-0 c.requires c.in-Err.ensures.err)
