use Rattle.std.proofs.Common.{◌∙◌}
use Rattle.map_join.specs.Maps.{at}
use Rattle.slot_tables.proofs.Adoptions.{none_left}
use Rattle.disk_array.proofs.array.Array.adopt.Goals as goal

pub destroy_empty-requires : goal.destroy_empty-requires
destroy_empty-requires g c =
    c.in-Ok.others.ok.0 ∙ none_left g.C.Hold.names c.args.claims.items (at c.args.map) c.in-Ok.array c.in-Ok.others.items c.requires.claims c.in-Ok.ensures.ok.kept c.in-Ok.ensures.claims
