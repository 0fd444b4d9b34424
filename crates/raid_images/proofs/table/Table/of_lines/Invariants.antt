use Rattle.extent_groups.specs.Groups.{Agree}
use Rattle.raid_images.proofs.table.Table.of_lines.Given as goal

abbrev pub invariant-loop-line : goal.invariant-loop-line
invariant-loop-line l = Agree l.table.groups l.table.extents
