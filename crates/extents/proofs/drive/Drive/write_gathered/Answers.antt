use Rattle.extents.proofs.Fronts.{one_size}
use Rattle.extents.proofs.drive.Drive.write_gathered.Goals as goal

pub join-requires : goal.join-requires
join-requires g c = one_size _ _ _ c.args.at c.requires.at c.requires.scratch c.requires.size
