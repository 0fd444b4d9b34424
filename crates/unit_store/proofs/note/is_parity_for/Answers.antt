use Rattle.extent_groups.proofs.Sites.{row_places}
use Rattle.unit_store.proofs.note.is_parity_for.Goals as goal

pub is_lost-requires : goal.is_lost-requires
is_lost-requires g c =
    (row_places g.D.Drive.units c.args.groups.now c.args.drives.now _ c.row_of-at.result.offset c.requires.drives c.row_of-at.ensures.inside.0 c.row_of-at.result.parity c.place-home.result c.place-home.ensures.place).inside
