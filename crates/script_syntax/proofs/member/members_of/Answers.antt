use Rattle.std.proofs.Common.{◌∙◌, ◌++◌, ap, sym, map, arith}
use Rattle.std.proofs.lemmas.Grind.{common_steps}
use Rattle.script_syntax.specs.Spelling.{member_word}
use Rattle.script_syntax.proofs.Members.{word_within}
use Rattle.script_syntax.proofs.member.members_of.Goals as goal

pub returns-in_default-member_of-clause-none : goal.returns-in_default-member_of-clause-none
returns-in_default-member_of-clause-none c members are =
    let reported = c.loop.invariant.reported in
    let here = rw c.in-Some.is at reported in
    let found = word_within members c.loop.members.items c.cut.result.0.now _ are.short
    (sym are.spelled ∙ here ∙ ap (λ ws. map member_word c.loop.members.items ++ ws) c.cut.ensures) in
    c.in_default-member_of.ensures.none found.0 found.1 found.2

pub returns-clause-some : goal.returns-clause-some
returns-clause-some c = grind (arith, common_steps)
