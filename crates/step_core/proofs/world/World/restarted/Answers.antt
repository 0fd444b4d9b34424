use Rattle.std.proofs.Common.{sym, subst}
use Rattle.map_join.specs.Maps.{at}
use Rattle.slot_tables.specs.Views.{WorldView}
use Rattle.slot_tables.specs.Represents.{ShowsArray}
use Rattle.step_core.proofs.Restarting.{has_parts, never_refused, reports_map, world_restarted}
use Rattle.step_core.proofs.world.World.restarted.Goals as goal

pub returns-in-Ok-clause-ok : goal.returns-in-Ok-clause-ok
returns-in-Ok-clause-ok g c F matches map =
    let shows : ShowsArray c.self.inside.array F = subst (λ (w : WorldView). ShowsArray w.array F) (sym c.self.view_is) matches.array in
    world_restarted c.args.self F (at c.args.map) c.in-Ok.array c.at_rest.result c.at_rest.ensures.array c.in-Ok.ensures.ok.log
    (c.in-Ok.ensures.flat F (has_parts c.self.inside.array F shows) (reports_map c.self.inside.array F (at c.args.map) shows map))
    (λ G showing idle. c.at_rest.ensures.flat G showing idle)

pub returns-in-Err-clause-err : goal.returns-in-Err-clause-err
returns-in-Err-clause-err g c F matches map =
    let shows : ShowsArray c.self.inside.array F = subst (λ (w : WorldView). ShowsArray w.array F) (sym c.self.view_is) matches.array in
    never_refused _ c.self.inside.array F (at c.args.map) c.in-Err.why shows map c.in-Err.ensures.err
