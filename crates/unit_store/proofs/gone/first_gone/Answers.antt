use Rattle.std.proofs.Common.{◌<◌, arith, rules}
use Rattle.extent_groups.specs.Groups.{group_at, slots_in}
use Rattle.extent_groups.specs.Missing.{missing_of}
use Rattle.unit_store.proofs.GoneSlots.{index_is, first_index, more_there, none_gone}
use Rattle.unit_store.proofs.gone.first_gone.Goals as goal

pub overflow_add-slot : goal.overflow_add-slot
overflow_add-slot g c =
    let low : c.loop-index.index < slots_in c.args.groups.now.segments (group_at c.args.groups.now c.args.group) = omega (arith, c.loop-index-test.true, c.slots_of-index-end.ensures.count) in
    let is = index_is c.args.groups.now c.args.group c.loop-index.index c.requires.groups low in
    omega (arith, is.number, is.small)

pub is_gone-requires-clause-slot : goal.is_gone-requires-clause-slot
is_gone-requires-clause-slot g c =
    let low : c.loop-index.index < slots_in c.args.groups.now.segments (group_at c.args.groups.now c.args.group) = omega (arith, c.loop-index-test.true, c.slots_of-index-end.ensures.count) in
    (index_is c.args.groups.now c.args.group c.loop-index.index c.requires.groups low).slot

pub returns-then-is_gone-clause-some : goal.returns-then-is_gone-clause-some
returns-then-is_gone-clause-some g c =
    let low : c.loop-index.index < slots_in c.args.groups.now.segments (group_at c.args.groups.now c.args.group) = omega (arith, c.loop-index-test.true, c.slots_of-index-end.ensures.count) in
    first_index c.args.groups.now (missing_of g.D.Drive.lost c.args.drives.now) c.args.group c.loop-index.index c.requires.groups low c.loop-index.invariant (search rules)

pub loop-index-preserved : goal.loop-index-preserved
loop-index-preserved g c = more_there c.args.groups.now (missing_of g.D.Drive.lost c.args.drives.now) c.args.group c.loop-index.index c.loop-index.invariant (search rules)

pub returns-clause-none : goal.returns-clause-none
returns-clause-none g c none = none_gone c.args.groups.now (missing_of g.D.Drive.lost c.args.drives.now) c.args.group (λ j low. c.loop-index.invariant j (omega (arith, low, c.slots_of-index-end.ensures.count, c.loop-index-test.false)))
