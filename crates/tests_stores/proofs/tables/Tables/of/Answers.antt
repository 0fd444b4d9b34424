use Rattle.std.proofs.Common.{sym, subst}
use Rattle.extent_groups.specs.Groups.{Agree}
use Rattle.tests_stores.proofs.tables.Tables.of.Goals as goal

pub returns : goal.returns
returns c = subst (Agree c.in_ok-groups.groups) (sym c.in_ok-extents.ensures) (c.in_ok-groups.ensures.agree c.args.drives)
