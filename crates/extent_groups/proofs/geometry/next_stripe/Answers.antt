use Rattle.std.proofs.Common.{◌≤◌, subst, arith}
use Rattle.std.proofs.lemmas.Bool.Decides.{nat_tests}
use Rattle.extent_groups.proofs.Counting.{stripe_on, stripe_over}
use Rattle.extent_groups.proofs.geometry.next_stripe.Goals as goal
use Rattle.extent_groups.proofs.geometry.next_stripe.Goals.{then-at-eq0, else-at-eq0}

pub returns-then-member-members : goal.returns-then-member-members
returns-then-member-members c = stripe_on c.args.members c.args.index c.but_parity-member.result c.args.at.now c.requires.many.0 c.requires.here c.if-index-eq0.false c.but_parity-member.ensures c.if-member-members.true

pub returns : goal.returns
returns c =
    let far = c.if-member-members.false in
    stripe_over c.args.members c.args.index c.but_parity.result c.if-at-eq0.parity c.args.at.now c.requires.many.0 c.requires.here c.if-index-eq0.false
    (subst (λ x. c.args.members ≤ x) c.but_parity-member.ensures (omega (arith, far)))
    (elim c.if-at-eq0.branch [
      | then-at-eq0 w ↦ let is = w.parity-is in let zero = w.if-at-eq0.true in grind (arith, nat_tests)
      | else-at-eq0 w ↦ let is = w.parity-is in let some = w.if-at-eq0.false in grind (arith, nat_tests)
    ])
    c.but_parity.ensures
