use Rattle.std.proofs.Common.{inl, inr, refl}
use Rattle.extent_groups.proofs.Sites.{site_places}
use Rattle.unit_store.proofs.gone.is_pair_gone.Goals as goal

pub is_lost-requires : goal.is_lost-requires
is_lost-requires g c =
    (site_places g.D.Drive.units c.args.groups.now c.args.drives.now c.args.slot _ c.pair_of.ensures.groups c.requires.drives c.pair_of.ensures.site c.pair_of.result.0 (inl refl)).inside

pub is_lost-requires-then-is_lost : goal.is_lost-requires-then-is_lost
is_lost-requires-then-is_lost g c =
    (site_places g.D.Drive.units c.args.groups.now c.args.drives.now c.args.slot _ c.pair_of.ensures.groups c.requires.drives c.pair_of.ensures.site c.pair_of.result.1 (inr refl)).inside
