use Rattle.std.proofs.Common.{map, rules}
use Rattle.storm.proofs.Stormed.{stormed}
use Rattle.storm.proofs.life.close.Goals as goal

pub returns-in-None : goal.returns-in-None
returns-in-None g c first new begun played =
    let settled = c.conclude-reported.result.1 in
    stormed _ _ _ (map (λ e. e.hand) c.args.ended.items) settled.keeper settled.array first (map (λ e. e.even) c.args.ended.items) (map (λ e. e.odd) c.args.ended.items) c.in_ok-storm.storm new begun played
    c.conclude-reported.ensures.history (search rules) (search rules)
