use Rattle.std.proofs.Common.{arith}
use Rattle.extents.proofs.Placed.{thin_first, zeros_of}
use Rattle.extents.proofs.thin.ThinUnits.new.Goals as goal

pub invariant_of-result : goal.invariant_of-result
invariant_of-result c =
    rw (c.in_ok-bytes.ensures.items, c.in_ok-places.ensures.items_if_clones_equal)
    (thin_first c.args.size c.args.count _ c.requires (omega (arith, c.in_ok-bytes.ensures.capacity)))

pub returns : goal.returns
returns c = rw (c.in_ok-places.ensures.items_if_clones_equal) (zeros_of c.args.size c.args.count c.in_ok-bytes.bytes.items)
