use Rattle.std.proofs.Common.{◌∙◌, sym}
use Rattle.extent_groups.proofs.Sites.{row_places}
use Rattle.extent_groups.specs.Missing.{missing_of}
use Rattle.unit_store.proofs.GoneSlots.{row_gone}
use Rattle.unit_store.proofs.gone.is_row_gone.Goals as goal

pub is_lost-requires : goal.is_lost-requires
is_lost-requires g c =
    (row_places g.D.Drive.units c.args.groups.now c.args.drives.now _ c.row_of-at.result.offset c.requires.drives c.row_of-at.ensures.inside.0 c.row_of-at.result.member c.place-home.result c.place-home.ensures.place).inside

pub returns-then-is_lost : goal.returns-then-is_lost
returns-then-is_lost g c =
    row_gone (missing_of g.D.Drive.lost c.args.drives.now) c.args.groups.now c.args.slot c.row_of-at.result.offset c.row_of-at.result.parity c.row_of-at.result.member c.members.result.now c.place-home.result c.is_other_lost.result
    c.members.ensures.members c.row_of-at.ensures.site c.place-home.ensures.place (sym c.is_lost.ensures ∙ c.if-is_lost.true) c.is_other_lost.ensures
