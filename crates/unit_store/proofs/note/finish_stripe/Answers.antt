use Rattle.std.proofs.Common.{inl, inr}
use Rattle.extent_groups.proofs.DriveCalls.{keeps_place, keeps_trans}
use Rattle.extent_groups.proofs.Sites.{row_places}
use Rattle.unit_store.proofs.note.finish_stripe.Goals as goal

pub write_own-home-requires-clause-place : goal.write_own-home-requires-clause-place
write_own-home-requires-clause-place g c =
    row_places g.D.Drive.units c.args.groups.now c.args.drives.now _ c.row_of-at.result.offset c.requires.drives c.row_of-at.ensures.inside.0 c.row_of-at.result.member c.place-home.result c.place-home.ensures.place

pub write_own-home-requires-clause-own : goal.write_own-home-requires-clause-own
write_own-home-requires-clause-own g c = (_, c.row_of-at.ensures.site, inl c.place-home.ensures.place)

pub write_own-parity-requires-clause-place : goal.write_own-parity-requires-clause-place
write_own-parity-requires-clause-place g c =
    keeps_place c.write_own-home.ensures.touched
    (row_places g.D.Drive.units c.args.groups.now c.args.drives.now _ c.row_of-at.result.offset c.requires.drives c.row_of-at.ensures.inside.0 c.row_of-at.result.parity c.place-second.result c.place-second.ensures.place)

pub write_own-parity-requires-clause-own : goal.write_own-parity-requires-clause-own
write_own-parity-requires-clause-own g c = (_, c.row_of-at.ensures.site, inr c.place-second.ensures.place)

pub returns-in-Some-clause-touched : goal.returns-in-Some-clause-touched
returns-in-Some-clause-touched g c = keeps_trans c.write_own-home.ensures.touched c.write_own-parity.ensures.touched
