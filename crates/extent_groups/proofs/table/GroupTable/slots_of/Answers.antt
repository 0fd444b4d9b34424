use Rattle.std.proofs.Common.{ap, arith, length}
use Rattle.extent_groups.proofs.LayoutLaw.{layout_law}
use Rattle.extent_groups.proofs.table.GroupTable.slots_of.Goals as goal

pub overflow_cast-members : goal.overflow_cast-members
overflow_cast-members c =
    let form = c.find.ensures.groups.formed c.args.group _ c.in-Some.ensures.made in
    omega (arith, form.few, ap length c.deref-members.ensures.value)

pub count_slots-requires : goal.count_slots-requires
count_slots-requires c =
    let form = c.find.ensures.groups.formed c.args.group _ c.in-Some.ensures.made in
    record {
      some = omega (arith, form.enough, ap length c.deref-members.ensures.value);
      few = omega (arith, form.few, ap length c.deref-members.ensures.value);
      short = omega (arith, c.self.invariant.groups.segments);
    }

pub returns-in-Some-clause-layout : goal.returns-in-Some-clause-layout
returns-in-Some-clause-layout c = layout_law c.args.self.now c.find.ensures.groups

pub returns-in-None-clause-layout : goal.returns-in-None-clause-layout
returns-in-None-clause-layout c = layout_law c.args.self.now c.find.ensures.groups
