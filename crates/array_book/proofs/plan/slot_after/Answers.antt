use Rattle.std.proofs.Common.{◌≡◌, ℕ, ◌<◌, true, subst, rules}
use Rattle.tiered_array.specs.Planning.{IsNextAppend}
use Rattle.array_book.specs.Kept.{KeptView}
use Rattle.array_book.specs.Planned.{turn_of}
use Rattle.array_book.proofs.Answering.{state_of}
use Rattle.array_book.proofs.plan.slot_after.Goals as goal

pub returns-clause-next : goal.returns-clause-next
returns-clause-next g c =
    let group = c.args.plan.now.group in
    let here = subst (λ (k : KeptView). IsNextAppend k.array k.planner (λ other. c.turn_of.result < turn_of group other) c.next_append.result) c.kept.view_is c.next_append.ensures in
    let first = subst (λ (n : ℕ). IsNextAppend c.args.kept.now.array c.args.kept.now.planner (λ other. n < turn_of group other) c.next_append.result) c.turn_of.ensures here in
    (λ yes. first, λ no. let yes : c.args.plan.now.demotes ≡ true = search rules in cc)

pub returns-clause-seen : goal.returns-clause-seen
returns-clause-seen g c = (state_of _ _ c.args.kept.now c.matches.ensures.kept, returns-clause-next g c)
