use Rattle.std.proofs.Common.{arith}
use Rattle.extent_groups.proofs.Bounds.{mirrored_slot}
use Rattle.extent_groups.proofs.table.GroupTable.copies_among.Goals as goal

pub overflow_cast-members : goal.overflow_cast-members
overflow_cast-members c =
    let s = mirrored_slot c.args.self.now c.args.group c.args.index _ c.requires.members.formed c.requires.members.found c.requires.mirrored c.requires.slot in omega (arith, s.few)

pub two_copies-requires : goal.two_copies-requires
two_copies-requires c =
    let s = mirrored_slot c.args.self.now c.args.group c.args.index _ c.requires.members.formed c.requires.members.found c.requires.mirrored c.requires.slot in record { some = omega (arith, s.some); low = s.low }

pub returns-clause-law : goal.returns-clause-law
returns-clause-law c =
    rw c.two_copies.ensures (mirrored_slot c.args.self.now c.args.group c.args.index _ c.requires.members.formed c.requires.members.found c.requires.mirrored c.requires.slot).law
