use Rattle.std.proofs.Common.{◌≡◌, ◌-◌, length, drop, replicate}
use Rattle.storm.specs.Rounds.{HasPlayed}
use Rattle.storm.proofs.rounds.RoundsJob.work.Given as goal

-- so many rounds were played, and the payload has zeros after its numbers
abbrev pub invariant-loop-round : goal.invariant-loop-round
invariant-loop-round g l = record {
  played : HasPlayed (record { blocks = g.N.Sizes.blocks; payload = g.N.Sizes.payload }) l.self.payload l.round l.initial.worker.number l.initial.worker.hand l.worker.hand;
  number : l.worker.number ≡ l.initial.worker.number;
  long : length l.payload.items ≡ l.self.payload;
  zeros : drop 8 l.payload.items ≡ replicate (l.self.payload - 8) 0;
}
