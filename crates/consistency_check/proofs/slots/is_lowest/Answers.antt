use Rattle.std.proofs.Common.{Some, ap, sym, ◌∙◌, arith}
use Rattle.std.proofs.lemmas.Bool.Decides.{nat_tests}
use Rattle.consistency_check.proofs.Testing.{higher}
use Rattle.consistency_check.proofs.slots.is_lowest.Goals as goal

pub returns-in-Some-Parity : goal.returns-in-Some-Parity
returns-in-Some-Parity c = λ no cells below.
    higher c.args.groups.now cells c.args.slot c.members.result.now c.members.ensures.groups (sym c.in-Some-Parity.ensures ∙ ap (λ class. Some class) c.in-Some-Parity.field-0-is) c.members.ensures.members (λ zero. grind (arith, nat_tests)) below
