use Rattle.std.proofs.Common.{◌≡◌, sym, ◌∙◌, arith}
use Rattle.std.proofs.lemmas.Fmt.{decimal_injective}
use Rattle.raid_bench.proofs.task.numbers_of.Goals as goal

pub returns-then-workers-eq0-clause-none : goal.returns-then-workers-eq0-clause-none
returns-then-workers-eq0-clause-none c n m storm one other =
    let w : c.in-Some.workers ≡ n = decimal_injective c.in-Some.workers n (omega arith) (omega arith) (sym c.in-Some.ensures.some.1 ∙ one) in
    let v : c.in-Some-number_of.writes ≡ m = decimal_injective c.in-Some-number_of.writes m (omega arith) (omega arith) (sym c.in-Some-number_of.ensures.some.1 ∙ other) in
    grind (arith, c.then-workers-eq0.either, w, v, storm)
