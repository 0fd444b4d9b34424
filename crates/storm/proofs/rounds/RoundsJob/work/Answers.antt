use Rattle.std.proofs.Common.{◌≡◌, ◌-◌, length, drop, replicate, ap, sym, subst, ◌∙◌, rules}
use Rattle.storm.specs.Rounds.{Sized, IsRound}
use Rattle.storm.proofs.Playing.{played_more, written_back}
use Rattle.storm.proofs.rounds.RoundsJob.work.Goals as goal

pub loop-round-preserved : goal.loop-round-preserved
loop-round-preserved g c =
    let sizes : Sized = record { blocks = g.N.Sizes.blocks; payload = g.N.Sizes.payload } in
    let many : length c.deref_mut.result.now ≡ c.args.self.now.payload = search rules in
    let all : length c.loop-round.payload.items ≡ c.loop-round.payload.len = search rules in
    let same : length c.play.new.payload ≡ length c.loop-round.payload.items = search rules in
    let back = written_back c.loop-round.payload.len c.loop-round.payload.items c.play.new.payload same all in
    record {
      played = played_more sizes c.args.self.now.payload c.args.worker.now.number c.loop-round.round c.args.worker.now.hand c.loop-round.worker.hand c.play.new.worker.hand c.loop-round.invariant.played
          (subst (λ n. IsRound sizes n c.args.worker.now.number c.loop-round.round c.loop-round.worker.hand c.play.new.worker.hand) many
          (subst (λ m. IsRound sizes (length c.deref_mut.result.now) m c.loop-round.round c.loop-round.worker.hand c.play.new.worker.hand) c.loop-round.invariant.number c.in_ok-play.ensures.played));
      number = c.play.ensures.number ∙ c.loop-round.invariant.number;
      long = ap length back ∙ same ∙ c.loop-round.invariant.long;
      zeros = ap (drop 8) back ∙ search rules;
    }
