use Rattle.std.proofs.Common.{subst, sym}
use Rattle.extent_groups.specs.Groups.{Agree}
use Rattle.raid_images.proofs.table.Table.of_line.Goals as goal

pub returns : goal.returns
returns c = subst (Agree c.in_ok-new.field-0) (sym c.in_ok-new-2.ensures) (c.in_ok-new.ensures.agree c.in-Some.drives)
