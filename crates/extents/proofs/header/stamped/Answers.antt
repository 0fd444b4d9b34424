use Rattle.std.proofs.Common.{refl, rules}
use Rattle.extents.proofs.Stamps.{spells_made}
use Rattle.extents.proofs.header.stamped.Goals as goal

pub returns-clause-spelled : goal.returns-clause-spelled
returns-clause-spelled c =
    spells_made _ c.to_bytes.result c.args.stamp.now c.args.kind (rw (c.copy_from_slice.ensures.after, c.copy_from_slice-2.ensures.after, c.byte.ensures) refl) c.to_bytes.ensures.again

pub returns-clause-bytes : goal.returns-clause-bytes
returns-clause-bytes c = search rules
