use Rattle.std.proofs.Common.{◌/◌, get_or, arith}
use Rattle.slot_tables.specs.Views.{Nothing, Newest}
use Rattle.slot_tables.proofs.Kepts.{waiting_kept}
use Rattle.slot_tables.specs.Kept.{kepts_of}
use Rattle.slot_tables.proofs.Counts.{counted_few, counts_more, waiting_other}
use Rattle.slot_tables.proofs.Places.{kept_before, kept_inside, set_twice}
use Rattle.disk_array.proofs.commit.keep_newest.Goals as goal

pub one_more-requires : goal.one_more-requires
one_more-requires g c =
    let low = c.ranges.slot.fits in
    let few = counted_few (kepts_of c.args.places.now.items) c.args.live.now (c.args.slot / 128) (omega (arith, low)) c.requires.counts in
    omega (arith, few)

pub put_in-requires-clause-inside : goal.put_in-requires-clause-inside
put_in-requires-clause-inside g c =
    let places = c.args.places.now in
    let here = kept_before places.items c.args.slot (waiting_kept (get_or (kepts_of places.items) c.args.slot Nothing) c.requires.waits) in
    let own = places.ok.0 in
    let same = c.take_waiting-claim.ensures.room in
    omega (arith, here, own, same)

pub returns-clause-counts : goal.returns-clause-counts
returns-clause-counts g c =
    let kept = kepts_of c.args.places.now.items in
    let inside = kept_inside kept c.args.slot (waiting_kept (get_or kept c.args.slot Nothing) c.requires.waits) in
    let isnt = waiting_other (get_or kept c.args.slot Nothing) c.requires.waits in
    rw (c.put_in.ensures.kept, c.take_waiting-claim.ensures.left, set_twice kept c.args.slot Nothing (Newest c.args.block), c.one_more.ensures) (counts_more kept c.args.live.now c.args.slot c.args.block inside c.ranges.slot.fits isnt c.requires.counts)
