use Rattle.std.proofs.Common.{inr, ⊎_elim, ◌∙◌, ap, sym, arith, suc, ◌≡◌}
use Rattle.std.proofs.lemmas.Bool.{false≢true}
use Rattle.file_vault.specs.Generations.{stamp_bytes}
use Rattle.file_vault.proofs.stamp.is_code_of.Goals as goal

pub returns-in-Some-clause-either : goal.returns-in-Some-clause-either
returns-in-Some-clause-either c = λ is.
    let up : c.in-Some.next ≡ suc c.args.generation = omega (arith, c.in-Some.ensures.1) in
    inr (omega (arith, c.in-Some.ensures.0), c.is_code-in-Some.ensures.own is ∙ ap (stamp_bytes 8) up)

pub returns-in-Some-clause-all : goal.returns-in-Some-clause-all
returns-in-Some-clause-all c = λ has.
    let up : c.in-Some.next ≡ suc c.args.generation = omega (arith, c.in-Some.ensures.1) in
    c.is_code-in-Some.ensures.all (⊎_elim (λ own. absurd (false≢true (sym c.if-is_code.false ∙ c.is_code.ensures.all own))) (λ next. next.1 ∙ sym (ap (stamp_bytes 8) up)) has)
