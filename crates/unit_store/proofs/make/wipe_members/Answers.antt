use Rattle.std.proofs.Common.{refl}
use Rattle.std.proofs.lemmas.Option.{slice_get-get_or}
use Rattle.extent_groups.proofs.DriveCalls.{keeps_sizes}
use Rattle.unit_store.proofs.Wiping.{extent_kept, more_touched, more_wiped, first_lost}
use Rattle.unit_store.proofs.make.wipe_members.Goals as goal

pub wipe_extent-requires-clause-there : goal.wipe_extent-requires-clause-there
wipe_extent-requires-clause-there g c =
    extent_kept _ _ c.loop-member.invariant.touched (c.requires.there c.loop-member.member-index _ (slice_get-get_or c.args.members.now c.loop-member.member-index _ c.loop-member-test.true))

pub wipe_extent-requires-clause-size : goal.wipe_extent-requires-clause-size
wipe_extent-requires-clause-size g c = keeps_sizes c.loop-member.invariant.touched c.requires.size

pub returns-then-not-wipe_extent-clause-lost : goal.returns-then-not-wipe_extent-clause-lost
returns-then-not-wipe_extent-clause-lost g c =
    first_lost g.D.Drive.units g.D.Drive.lost g.D.Drive.failures c.args.shape.now.segments c.loop-member.member-index _ c.args.members.now c.args.zeros.now c.args.drives.now c.wipe_extent.new.drives c.requires.some
    (slice_get-get_or c.args.members.now c.loop-member.member-index _ c.loop-member-test.true)
    (more_touched g.D.Drive.units g.D.Drive.lost g.D.Drive.failures c.args.shape.now.segments c.loop-member.member-index _ c.args.members.now c.args.zeros.now c.args.drives.now c.loop-member.drives c.wipe_extent.new.drives
    c.requires.spread (slice_get-get_or c.args.members.now c.loop-member.member-index _ c.loop-member-test.true) c.loop-member.invariant c.wipe_extent.ensures.others c.wipe_extent.ensures.touched)
    (c.if-not-wipe_extent.ensures.lost refl)

pub returns-then-not-wipe_extent-clause-others : goal.returns-then-not-wipe_extent-clause-others
returns-then-not-wipe_extent-clause-others g c =
    (more_touched g.D.Drive.units g.D.Drive.lost g.D.Drive.failures c.args.shape.now.segments c.loop-member.member-index _ c.args.members.now c.args.zeros.now c.args.drives.now c.loop-member.drives c.wipe_extent.new.drives
    c.requires.spread (slice_get-get_or c.args.members.now c.loop-member.member-index _ c.loop-member-test.true) c.loop-member.invariant c.wipe_extent.ensures.others c.wipe_extent.ensures.touched).others

pub returns-then-not-wipe_extent-clause-touched : goal.returns-then-not-wipe_extent-clause-touched
returns-then-not-wipe_extent-clause-touched g c =
    (more_touched g.D.Drive.units g.D.Drive.lost g.D.Drive.failures c.args.shape.now.segments c.loop-member.member-index _ c.args.members.now c.args.zeros.now c.args.drives.now c.loop-member.drives c.wipe_extent.new.drives
    c.requires.spread (slice_get-get_or c.args.members.now c.loop-member.member-index _ c.loop-member-test.true) c.loop-member.invariant c.wipe_extent.ensures.others c.wipe_extent.ensures.touched).touched

pub loop-member-preserved : goal.loop-member-preserved
loop-member-preserved g c =
    more_wiped g.D.Drive.units g.D.Drive.lost g.D.Drive.failures c.args.shape.now.segments c.loop-member.member-index _ c.args.members.now c.args.zeros.now c.args.drives.now c.loop-member.drives c.wipe_extent.new.drives
    c.requires.spread (slice_get-get_or c.args.members.now c.loop-member.member-index _ c.loop-member-test.true) c.loop-member.invariant c.wipe_extent.ensures.others c.wipe_extent.ensures.touched
    (c.if-not-wipe_extent.ensures.wiped refl)
