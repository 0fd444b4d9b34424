use Rattle.std.proofs.Common.{◌≡◌, sym, ap, subst}
use Rattle.flat_machine.specs.Cases.{Leaves}
use Rattle.slot_tables.specs.Represents.{ShowsArray}
use Rattle.slot_tables.specs.Views.{ArrayView, WorldView}
use Rattle.slot_tables.proofs.Hands.{as_world}
use Rattle.step_core.proofs.Worlds.{sync_world}
use Rattle.step_core.proofs.world.World.sync.Goals as goal

pub returns-clause-flat : goal.returns-clause-flat
returns-clause-flat g c F rep =
    let v = c.args.self.now in
    let a = c.sync.new.self in
    let array : c.self.inside.array ≡ v.array = ap (λ (w : WorldView). w.array) c.self.view_is in
    as_world (λ G. Leaves F G) _ (record { array = a; hands = v.hands }) (ap (λ (w : WorldView). record { array = a; hands = w.hands }) c.self.view_is)
    (sync_world v F a rep (c.sync.ensures.flat F (subst (λ (z : ArrayView). ShowsArray z F) (sym array) rep.array)))
