use Rattle.std.proofs.Common.{◌≡◌, sym, ap, subst}
use Rattle.std.proofs.lemmas.Result.{on_ok_weaker}
use Rattle.flat_machine.specs.Shortened.{IsShortened}
use Rattle.slot_tables.specs.Represents.{ShowsArray}
use Rattle.slot_tables.specs.Views.{ArrayView, WorldView, SameSizes}
use Rattle.slot_tables.proofs.Hands.{as_world}
use Rattle.step_core.proofs.Worlds.{shortened_sizes, shortened_world}
use Rattle.step_core.proofs.world.World.shorten_log.Goals as goal

pub returns-clause-flat : goal.returns-clause-flat
returns-clause-flat g c =
    let v = c.args.self.now in
    let a = c.shorten_log.new.self in
    let array : c.self.inside.array ≡ v.array = ap (λ (w : WorldView). w.array) c.self.view_is in
    on_ok_weaker c.shorten_log.result
    (λ shows F rep. as_world (λ G. IsShortened F G) _ (record { array = a; hands = v.hands }) (ap (λ (w : WorldView). record { array = a; hands = w.hands }) c.self.view_is)
    (shortened_world v F a rep (shows F (subst (λ (z : ArrayView). ShowsArray z F) (sym array) rep.array))))
    c.shorten_log.ensures.flat

pub returns-clause-room : goal.returns-clause-room
returns-clause-room g c =
    subst (λ (w : WorldView). SameSizes w.array c.shorten_log.new.self) c.self.view_is
    (shortened_sizes c.shorten_log.result c.self.inside.array c.shorten_log.new.self c.shorten_log.ensures.rest c.shorten_log.ensures.err)
