use Rattle.std.proofs.Common.{[], sym, subst}
use Rattle.cached_drive.specs.Saving.{AreSaved, last_of}
use Rattle.cached_drive.proofs.Writing.{written}
use Rattle.cached_drive.proofs.drive.CachedDriveDrive.write_unit.Goals as goal

pub invariant_of-self-2-clause-saved : goal.invariant_of-self-2-clause-saved
invariant_of-self-2-clause-saved g c =
    let l = c.list.ensures in
    let d = c.args.self.now in
    subst (AreSaved c.list.new.all c.list.new.dirty.items (last_of [] d.hand.mine)) (sym c.keep.ensures.written)
    (written d.all c.list.new.all d.dirty.items c.list.new.dirty.items (last_of [] d.hand.mine) d.cache.units c.args.at c.args.unit.now c.requires.at d.saved l.listed l.kept l.only l.all)
