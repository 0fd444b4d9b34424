use Rattle.std.proofs.Common.{map, sym, subst}
use Rattle.storm.specs.Rounds.{HaveAllPlayed}
use Rattle.storm.proofs.life.play_out.Goals as goal

pub returns-in-Ok : goal.returns-in-Ok
returns-in-Ok g c =
    let opened = c.in_ok-book.ensures.first in
    c.close.ensures opened.0 opened.1 (c.in-Ok.ensures.begun opened.0 opened.2)
    (subst (λ size. HaveAllPlayed size c.args.orders.writes (map (λ e. e.hand) c.in-Ok.ended.items)) (sym c.requires.sizes.1) c.in-Ok.ensures.played)
