use Rattle.std.proofs.Common.{◌<◌, sym, subst}
use Rattle.std.specs.Prelude.{MatchOption}
use Rattle.tiered_array.proofs.Marks.{oldest_found}
use Rattle.tiered_array.proofs.planner.Planner.oldest_mirrored.Goals as goal

pub returns-clause-oldest : goal.returns-clause-oldest
returns-clause-oldest g c =
    oldest_found c.args.array.now c.args.self.now.ages c.oldest_marked-found.result c.below.result c.whole.ensures c.oldest_marked-found.ensures.oldest
    (λ inside. c.below.ensures.same (subst (λ n. MatchOption c.oldest_marked-found.result (Unit {0}) (λ b. b < n)) (sym c.shape.ensures.of_blocks) inside))
