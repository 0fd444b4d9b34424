use Rattle.std.proofs.Common.{length, subst, sym}
use Rattle.std.specs.Prelude.{OnOk, IfErr}
use Rattle.flat_machine.specs.Groups.{IsFirstLost}
use Rattle.extent_groups.specs.Calls.{SameBut, KeepsDrives}
use Rattle.extent_groups.specs.Cells.{cells}
use Rattle.extent_groups.specs.Missing.{missing_of}
use Rattle.unit_store.specs.Making.{HaveExtents, AreWiped, IsInOne, HasOn}
use Rattle.unit_store.proofs.Making.{extents_there}
use Rattle.unit_store.proofs.Reading.{reported_back}
use Rattle.unit_store.proofs.parts.Parts.wipe.Goals as goal

pub wipe_members-requires-clause-there : goal.wipe_members-requires-clause-there
wipe_members-requires-clause-there g c =
    subst (λ s. HaveExtents g.D.Drive.units s c.deref_mut-drives.result.now c.args.members.now) (sym c.requires.fit.shape.of_segments)
    (subst (λ ds. HaveExtents g.D.Drive.units c.args.self.now.groups.segments ds c.args.members.now) (sym c.deref_mut-drives.ensures.value)
    (extents_there g.D.Drive.units c.args.self.now c.args.members.now c.requires.fit c.requires.there))

pub returns-clause-wiped : goal.returns-clause-wiped
returns-clause-wiped g c =
    reported_back (λ a b s. OnOk c.wipe_members.result (AreWiped s c.args.members.now c.args.zeros.now (length c.args.members.now) (cells g.D.Drive.units g.D.Drive.lost b)))
    c.args.self.now.drives c.deref_mut-drives.result.now c.wipe_members.new.drives c.args.self.now.shape.segments c.args.self.now.groups.segments
    c.deref_mut-drives.ensures.value c.wipe_members.ensures.touched.many c.requires.fit.shape.of_segments c.wipe_members.ensures.wiped

pub returns-clause-lost : goal.returns-clause-lost
returns-clause-lost g c =
    reported_back (λ a b s. IfErr c.wipe_members.result (IsFirstLost (missing_of g.D.Drive.lost b) c.args.members.now))
    c.args.self.now.drives c.deref_mut-drives.result.now c.wipe_members.new.drives c.args.self.now.shape.segments c.args.self.now.groups.segments
    c.deref_mut-drives.ensures.value c.wipe_members.ensures.touched.many c.requires.fit.shape.of_segments c.wipe_members.ensures.lost

pub returns-clause-others : goal.returns-clause-others
returns-clause-others g c =
    reported_back (λ a b s. SameBut (HasOn c.args.members.now) a b)
    c.args.self.now.drives c.deref_mut-drives.result.now c.wipe_members.new.drives c.args.self.now.shape.segments c.args.self.now.groups.segments
    c.deref_mut-drives.ensures.value c.wipe_members.ensures.touched.many c.requires.fit.shape.of_segments c.wipe_members.ensures.others

pub returns-clause-touched : goal.returns-clause-touched
returns-clause-touched g c =
    reported_back (λ a b s. KeepsDrives g.D.Drive.units g.D.Drive.lost g.D.Drive.failures (IsInOne s c.args.members.now) a b)
    c.args.self.now.drives c.deref_mut-drives.result.now c.wipe_members.new.drives c.args.self.now.shape.segments c.args.self.now.groups.segments
    c.deref_mut-drives.ensures.value c.wipe_members.ensures.touched.many c.requires.fit.shape.of_segments c.wipe_members.ensures.touched
