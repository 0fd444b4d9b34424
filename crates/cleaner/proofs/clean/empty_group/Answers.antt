use Rattle.std.proofs.Common.{arith}
use Rattle.extent_groups.specs.declared.class.Class.TheVariants.{Parity}
use Rattle.extent_groups.proofs.Bounds.{made_low}
use Rattle.cleaner.proofs.clean.empty_group.Goals as goal

pub returns : goal.returns
returns g c group e =
    let low = made_low c.args.groups.now group Parity c.members-members.ensures.groups.numbers e.made in
    c.loop-group.invariant group (omega (arith, low, c.loop-group-test.false)) e
