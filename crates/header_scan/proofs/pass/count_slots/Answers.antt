use Rattle.std.proofs.Common.{◌<◌, sym, subst}
use Rattle.extent_groups.proofs.GroupReads.{few_slots}
use Rattle.header_scan.proofs.pass.count_slots.Goals as goal

pub returns-clause-few : goal.returns-clause-few
returns-clause-few c = subst (λ n. n < 128) (sym c.slots_of.ensures.count) (few_slots c.args.groups.now c.args.group c.members-members.ensures.groups)
