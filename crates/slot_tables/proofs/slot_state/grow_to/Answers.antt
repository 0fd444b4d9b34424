use Rattle.std.proofs.Common.{◌<◌, length, ◌∙◌, arith, rules}
use Rattle.slot_tables.proofs.Places.{claims_push, kepts_push}
use Rattle.slot_tables.proofs.slot_state.grow_to.Goals as goal

pub loop-made-preserved : goal.loop-made-preserved
loop-made-preserved g c =
    let before = c.loop-made.invariant in
    let places = c.loop-made.places in
    let count = before.count in
    let made = before.made in
    let low = c.ranges.group.fits in
    let group = c.requires.group in
    let test = c.loop-made-test.true in
    let own = places.ok.0 in
    let fewer : length places.items < 65536 = omega (arith, own, made, test, count, group) in
    let more = c.push_reserved.ensures.len in
    let longer = before.longer in record {
      count = count;
      made = search rules;
      most = omega (arith, own, fewer, more);
      room = search rules;
      no_more = λ small. let most = before.no_more small in let same = c.push_reserved.ensures.capacity in omega (arith, most, same);
      kept = rw (c.push_reserved.ensures.items) (kepts_push places.items fewer ∙ before.kept);
      longer = omega (arith, more, longer);
      of = rw (c.push_reserved.ensures.items) (claims_push g.C.Hold.names places.items before.of);
    }
