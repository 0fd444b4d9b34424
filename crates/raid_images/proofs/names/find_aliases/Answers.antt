use Rattle.std.proofs.Common.{◌<◌, ℕ, length, arith, rules}
use Rattle.std.proofs.lemmas.Option.{slice_get_within}
use Rattle.raid_images.specs.Names.{AreTwins}
use Rattle.raid_images.proofs.Firsts.{none_next}
use Rattle.raid_images.proofs.names.find_aliases.Goals as goal

pub loop-higher-preserved : goal.loop-higher-preserved
loop-higher-preserved c = λ k low lower twins. none_next (λ n. (m : ℕ) × AreTwins c.args.spots.now m n) c.loop-higher.higher
    (λ n less some. c.loop-higher.invariant n less some.0 some.1)
    (λ some. c.in_default.ensures.none some.0 some.1) k low (lower, twins)

pub returns-clause-none : goal.returns-clause-none
returns-clause-none c = λ lower higher twins.
    c.loop-higher.invariant higher (omega (arith, slice_get_within c.args.spots.now higher twins.second twins.second_at, c.loop-higher-test.false, c.loop-higher.auto.higher-end)) lower twins
