use Rattle.disk_array.proofs.Beginnings.{none_lost}
use Rattle.disk_array.proofs.memory.Array+MemDrive+C.in_memory.Goals as goal

pub returns-in-Ok-new-clause-ok : goal.returns-in-Ok-new-clause-ok
returns-in-Ok-new-clause-ok g c =
    none_lost c.in-Ok-new.array c.in-Ok.units.items c.args.drives c.in-Ok.ensures.count c.in-Ok-new.ensures.drives c.in-Ok.ensures.present c.in-Ok-new.ensures.ok
