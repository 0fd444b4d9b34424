use Rattle.std.proofs.Common.{sym, subst}
use Rattle.extent_groups.specs.Groups.{Agree}
use Rattle.extent_groups.proofs.Agreement.{agree_more}
use Rattle.tests_stores.proofs.tables.Tables.add_drive.Goals as goal

pub returns : goal.returns
returns c = subst (Agree c.args.self.now.groups) (sym c.in_ok-add_drive.ensures.ok) (agree_more c.args.self.now.groups c.args.self.now.extents c.requires)
