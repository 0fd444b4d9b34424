use Rattle.std.proofs.Common.{subst}
use Rattle.step_core.specs.Placing.{Discards}
use Rattle.step_core.proofs.Refusals.{refused_same}
use Rattle.step_core.proofs.claimed.finish.Goals as goal

pub returns-in-Err-clause-flat : goal.returns-in-Err-clause-flat
returns-in-Err-clause-flat g c = record {
  between = c.commit.new.self;
  refused = c.in-Err.ensures.flat;
  same = refused_same c.args.array.now c.commit.new.self c.in-Err.refusal c.in-Err.ensures.err.1;
  ended = subst (Discards c.commit.new.self c.take_back-claim.new.array) c.in-Err.ensures.err.0 c.take_back-claim.ensures.flat;
}
