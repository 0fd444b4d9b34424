use Rattle.std.proofs.Common.{refl, rules}
use Rattle.step_core.proofs.Placing.{closed_case, closed_refused}
use Rattle.step_core.proofs.claimed.place_at_once.Goals as goal

pub returns-in-Some-clause-flat : goal.returns-in-Some-clause-flat
returns-in-Some-clause-flat g c F w shows held =
    closed_case c.args.array.now c.args.what F w (g.C.Hold.names c.args.claim) c.args.block c.in-Some.refusal (search rules) shows held

pub returns-in-Some-clause-err : goal.returns-in-Some-clause-err
returns-in-Some-clause-err g c = (refl, (closed_refused c.args.array.now c.args.what (g.C.Hold.names c.args.claim) c.in-Some.refusal (search rules)).0)
