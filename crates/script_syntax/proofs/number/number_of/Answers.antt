use Rattle.std.proofs.Common.{[]}
use Rattle.script_syntax.proofs.Fronts.{not_alone, one_number, word_alone}
use Rattle.script_syntax.proofs.number.number_of.Goals as goal

pub returns-in-Some-default-None-clause-some : goal.returns-in-Some-default-None-clause-some
returns-in-Some-default-None-clause-some c =
    let found = rw c.in-Some-default-None.field-0-1-is at c.in-Some-default-None.ensures.some in
    (found.0, word_alone c.args.word.now _ found.1)

pub returns-in-Some-default-Some-clause-none : goal.returns-in-Some-default-Some-clause-none
returns-in-Some-default-Some-clause-none c n short e =
    let found = rw c.in-Some-default-Some.field-0-1-is at c.in-Some-default-Some.ensures.some in
    not_alone c.args.word.now n c.in-Some-default-Some.field-0-0 c.in-Some-default-Some.field-0-1-0.now short e found.1

pub returns-in-None-clause-none : goal.returns-in-None-clause-none
returns-in-None-clause-none c n short e =
    c.in-None.ensures.none n [] short (one_number c.args.word.now n short e)
