use Rattle.std.proofs.Common.{ap, arith, length}
use Rattle.extent_groups.proofs.Bounds.{group_size}
use Rattle.extent_groups.proofs.table.GroupTable.parity_member.Goals as goal

pub overflow_cast-members : goal.overflow_cast-members
overflow_cast-members c =
    let t = c.members.ensures.groups in
    let size = group_size _ _ (t.formed c.args.group) c.requires.parity in
    omega (arith, size, ap length c.members.ensures.members)

pub parity_at-requires : goal.parity_at-requires
parity_at-requires c =
    let t = c.members.ensures.groups in
    let size = group_size _ _ (t.formed c.args.group) c.requires.parity in
    omega (arith, size, ap length c.members.ensures.members)
