use Rattle.std.proofs.Common.{rules}
use Rattle.extent_groups.proofs.GeometryLaws.{stripe_law}
use Rattle.raid_c.specs.declared.status.Status.TheVariants as is
use Rattle.raid_c.proofs.geometry.behkuna_one_stripe.Goals as goal

pub returns-then-not-is_slot : goal.returns-then-not-is_slot
returns-then-not-is_slot c = (is.Range, search rules, search rules)

pub returns : goal.returns
returns c = (is.Done, search rules, (search rules, search rules, search (rules, stripe_law)))
