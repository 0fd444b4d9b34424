use Rattle.std.proofs.Common.{◌≡◌, rules, sym, ap, subst}
use Rattle.flat_machine.specs.Moves.{with_fuse}
use Rattle.slot_tables.specs.Views.{ArrayView, WorldView}
use Rattle.slot_tables.specs.Represents.{Represents, ShowsArray}
use Rattle.step_core.proofs.Worlds.{fuse_world}
use Rattle.step_core.proofs.world.World.fuse.Goals as goal

pub returns-clause-flat : goal.returns-clause-flat
returns-clause-flat c F rep =
    let array : c.self.inside.array ≡ c.args.self.now.array = ap (λ (w : WorldView). w.array) c.self.view_is in
    subst (λ (w : WorldView). Represents w (with_fuse F c.args.drive)) (search rules)
    (fuse_world c.args.self.now F c.args.drive c.fuse.new.self rep (c.fuse.ensures.flat F (subst (λ (a : ArrayView). ShowsArray a F) (sym array) rep.array)))
