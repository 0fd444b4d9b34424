use Rattle.std.proofs.Common.{◌∙◌, ap, arith}
use Rattle.extent_groups.specs.Calls.{if_ok}
use Rattle.extent_groups.specs.Cells.{cells}
use Rattle.extent_groups.specs.declared.class.Class.TheVariants.{Parity}
use Rattle.extent_groups.proofs.GroupReads.{index_low, slot_by_index, members_by_index, headers_stay, reads_left, reads_more}
use Rattle.parity_store.proofs.read_headers.Goals as goal

pub read_header_at-requires-clause-slot : goal.read_header_at-requires-clause-slot
read_header_at-requires-clause-slot g c =
    let small = index_low c.args.groups.now c.args.group c.loop-index.index c.slots_of-count.result c.members-members.ensures.groups c.slots_of-count.ensures.count c.loop-index-test.true in
    let count = c.slots_of-count.ensures.count in
    let below = c.loop-index-test.true in
    slot_by_index c.args.groups.now Parity c.args.group c.loop-index.index c.loop-index.at.slot (omega (arith, small)) c.loop-index.invariant.slot c.requires.parity (omega (arith, count, below))

pub read_header_at-requires-clause-members : goal.read_header_at-requires-clause-members
read_header_at-requires-clause-members g c =
    let small = index_low c.args.groups.now c.args.group c.loop-index.index c.slots_of-count.result c.members-members.ensures.groups c.slots_of-count.ensures.count c.loop-index-test.true in
    members_by_index c.args.groups.now c.args.group c.loop-index.index c.loop-index.at.slot c.members-members.result.now (omega (arith, small)) c.loop-index.invariant.slot c.members-members.ensures.members c.members-members.ensures.groups

pub returns-then-not-read_header_at-clause-read : goal.returns-then-not-read_header_at-clause-read
returns-then-not-read_header_at-clause-read g c = λ sound.
    headers_stay c.args.groups.now (cells g.D.Drive.units g.D.Drive.lost c.args.drives.now) c.args.group c.loop-index.index c.loop-index.headers c.read_header_at.new.header (c.loop-index.invariant.reads.read sound)

pub returns-then-not-read_header_at-clause-leaves : goal.returns-then-not-read_header_at-clause-leaves
returns-then-not-read_header_at-clause-leaves g c =
    let small = index_low c.args.groups.now c.args.group c.loop-index.index c.slots_of-count.result c.members-members.ensures.groups c.slots_of-count.ensures.count c.loop-index-test.true in
    reads_left c.args.groups.now c.args.group c.loop-index.index c.loop-index.at.slot c.args.drives.now c.loop-index.drives c.read_header_at.new.drives c.loop-index.headers (omega (arith, small)) c.loop-index.invariant.slot
    c.loop-index.invariant.reads c.read_header_at.ensures.leaves

pub next-at-requires-clause-more : goal.next-at-requires-clause-more
next-at-requires-clause-more g c =
    let small = index_low c.args.groups.now c.args.group c.loop-index.index c.slots_of-count.result c.members-members.ensures.groups c.slots_of-count.ensures.count c.loop-index-test.true in
    let is = c.loop-index.invariant.slot in
    omega (arith, small, is)

pub loop-index-preserved : goal.loop-index-preserved
loop-index-preserved g c =
    let small = index_low c.args.groups.now c.args.group c.loop-index.index c.slots_of-count.result c.members-members.ensures.groups c.slots_of-count.ensures.count c.loop-index-test.true in
    let is = c.loop-index.invariant.slot in
    let next = c.next-at.ensures.slot in
    let count = c.slots_of-count.ensures.count in
    let below = c.loop-index-test.true in
    let many = c.requires.many in
    let long = c.loop-index.auto.headers in
    record {
      reads =
          reads_more c.args.groups.now c.args.group c.loop-index.index c.loop-index.at.slot c.args.drives.now c.loop-index.drives c.read_header_at.new.drives c.loop-index.headers c.read_header_at.new.header (omega (arith, small)) is
          (omega (arith, below, count, many, long)) c.loop-index.invariant.reads c.read_header_at.ensures.leaves (c.read_header_at.ensures.header ∙ ap (λ b. if_ok b c.read_header_at.new.header) c.if-not-read_header_at.false);
      slot = omega (arith, next, is);
      stripe = c.next-at.ensures.stripe;
    }
