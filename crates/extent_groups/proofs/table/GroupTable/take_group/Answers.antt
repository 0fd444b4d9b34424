use Rattle.std.proofs.Common.{None, refl, sym, subst, rules}
use Rattle.extent_groups.specs.Groups.{AreThere}
use Rattle.extent_groups.proofs.Agreement.{members_there}
use Rattle.extent_groups.proofs.Keeping.{is_taken}
use Rattle.extent_groups.proofs.ParitySlots.{slots_written}
use Rattle.extent_groups.proofs.table.GroupTable.take_group.Goals as goal

pub give-requires : goal.give-requires
give-requires c =
    subst (AreThere c.args.extents.now) (sym c.deref.ensures.value) (members_there c.args.self.now c.args.extents.now c.args.group _ c.requires c.in-Some.ensures.made)

pub invariant_of-self : goal.invariant_of-self
invariant_of-self c =
    let taken = is_taken c.self.inside.shape _ c.args.self.now c.args.extents.now c.args.group _ c.self.view_is c.in-Some.ensures.groups c.requires c.in-Some.ensures.within c.in-Some.ensures.made in
    record {
      groups = taken.groups;
      slots = slots_written c.self.inside.shape c.self.inside.groups.items c.self.inside.parity_slots.items c.args.group 0 None c.self.invariant.slots refl;
    }

pub returns-clause-taken : goal.returns-clause-taken
returns-clause-taken c =
    (is_taken c.self.inside.shape _ c.args.self.now c.args.extents.now c.args.group _ c.self.view_is c.in-Some.ensures.groups c.requires c.in-Some.ensures.within c.in-Some.ensures.made).shown

pub returns-clause-agree : goal.returns-clause-agree
returns-clause-agree c =
    rw (c.give.ensures, c.deref.ensures.value)
    (is_taken c.self.inside.shape _ c.args.self.now c.args.extents.now c.args.group _ c.self.view_is c.in-Some.ensures.groups c.requires c.in-Some.ensures.within c.in-Some.ensures.made).agree

pub returns-clause-freed : goal.returns-clause-freed
returns-clause-freed c = search rules
