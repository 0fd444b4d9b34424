use Rattle.std.proofs.Common.{◌≡◌, None, subst, rules}
use Rattle.std.specs.Prelude.{MatchOption}
use Rattle.array_book.specs.Kept.{KeptView}
use Rattle.tiered_array.specs.Planning.{IsPlugOf, IsCleanOf}
use Rattle.array_book.specs.Planned.{IsRegrouped, IsPlanned, NoDemotion}
use Rattle.array_book.proofs.Answering.{state_of}
use Rattle.array_book.proofs.Planning.{planned_else}
use Rattle.array_book.proofs.plan.plan_in.Goals as goal

pub returns-in-Some-clause-seen : goal.returns-in-Some-clause-seen
returns-in-Some-clause-seen g c =
    let planned : IsPlanned c.args.mirrors.now c.args.low c.args.kept.now c.demotion.result = search rules in
    record { state = state_of _ _ c.args.kept.now c.matches.ensures.kept; planned = planned }

pub returns-in-None-clause-planned : goal.returns-in-None-clause-planned
returns-in-None-clause-planned g c =
    let k = c.args.kept.now in
    let r = c.regrouped.result in
    let same : c.due_demotion.new.kept ≡ k = search rules in
    let none : NoDemotion k c.args.mirrors.now c.args.low = search rules in
    let moves = subst (λ (k : KeptView). MatchOption r (IsPlugOf k.array k.planner None × IsCleanOf k.array k.planner None) (IsRegrouped k)) same c.regrouped.ensures.moves in
    planned_else c.args.mirrors.now c.args.low k r none moves

pub returns-in-None-clause-seen : goal.returns-in-None-clause-seen
returns-in-None-clause-seen g c =
    record { state = state_of _ _ c.args.kept.now c.matches.ensures.kept; planned = returns-in-None-clause-planned g c }
