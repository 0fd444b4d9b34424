use Rattle.std.proofs.Common.{subst}
use Rattle.tiered_array.specs.Planning.{IsNextAppend}
use Rattle.array_book.specs.Kept.{KeptView}
use Rattle.array_book.proofs.plan.demotion.Goals as goal

pub returns-clause-slot : goal.returns-clause-slot
returns-clause-slot g c = subst (λ (k : KeptView). IsNextAppend k.array k.planner (λ slot. Unit {0}) c.next_append.result) c.kept.view_is c.next_append.ensures
