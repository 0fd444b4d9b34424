use Rattle.std.proofs.Common.{ap}
use Rattle.extent_groups.specs.Groups.{Groups}
use Rattle.flat_machine.specs.Moves.{with_fuse}
use Rattle.storm.proofs.life.is_fused.Goals as goal

pub returns-clause-shows : goal.returns-clause-shows
returns-clause-shows g c F shows = (with_fuse F c.in-Some.field-0.drive, c.fuse.ensures.flat F shows)

pub returns-clause-sizes : goal.returns-clause-sizes
returns-clause-sizes g c =
    let same = c.fuse.ensures.fused.rest.groups in (ap (λ (z : Groups). z.blocks) same, ap (λ (z : Groups). z.payload) same)
