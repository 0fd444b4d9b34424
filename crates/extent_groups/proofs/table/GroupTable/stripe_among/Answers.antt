use Rattle.std.proofs.Common.{arith}
use Rattle.extent_groups.proofs.Bounds.{parity_slot}
use Rattle.extent_groups.proofs.table.GroupTable.stripe_among.Goals as goal

pub overflow_cast-members : goal.overflow_cast-members
overflow_cast-members c =
    let s = parity_slot c.args.self.now c.args.group c.args.index _ c.requires.members.formed c.requires.members.found c.requires.parity c.requires.slot in omega (arith, s.few)

pub one_stripe-requires : goal.one_stripe-requires
one_stripe-requires c =
    let s = parity_slot c.args.self.now c.args.group c.args.index _ c.requires.members.formed c.requires.members.found c.requires.parity c.requires.slot in record { some = omega (arith, s.some); low = s.low }

pub returns-clause-law : goal.returns-clause-law
returns-clause-law c =
    rw c.one_stripe.ensures (parity_slot c.args.self.now c.args.group c.args.index _ c.requires.members.formed c.requires.members.found c.requires.parity c.requires.slot).law

pub returns-clause-few : goal.returns-clause-few
returns-clause-few c =
    (parity_slot c.args.self.now c.args.group c.args.index _ c.requires.members.formed c.requires.members.found c.requires.parity c.requires.slot).few
