use Rattle.std.proofs.Common.{◌∙◌, Some, refl, ap, subst, rules}
use Rattle.extent_groups.specs.Groups.{AreGroups, parity_count}
use Rattle.extent_groups.proofs.Keeping.{is_put}
use Rattle.extent_groups.proofs.ParitySlots.{slots_written}
use Rattle.extent_groups.proofs.table.GroupTable.enter_group.Goals as goal

pub invariant_of-self : goal.invariant_of-self
invariant_of-self c =
    let put = is_put c.self.inside.shape _ _ c.args.extents.now c.args.group c.args.class c.args.members _ c.self.view_is refl (subst AreGroups c.self.view_is c.self.invariant.groups)
    c.requires.agree c.requires.free c.requires.there c.requires.fine in
    record {
      groups = put.groups;
      slots = slots_written c.self.inside.shape c.self.inside.groups.items c.self.inside.parity_slots.items c.args.group c.count_parity-slots.result
          (Some (record { class = c.args.class; members = c.args.members })) c.self.invariant.slots
          (c.count_parity-slots.ensures ∙ ap (λ n. parity_count c.args.class n c.self.inside.shape.segments) (c.len.ensures ∙ c.args.members.ok.0));
    }

pub returns-clause-made : goal.returns-clause-made
returns-clause-made c =
    (is_put c.self.inside.shape _ _ c.args.extents.now c.args.group c.args.class c.args.members _ c.self.view_is refl (subst AreGroups c.self.view_is c.self.invariant.groups)
    c.requires.agree c.requires.free c.requires.there c.requires.fine).shown

pub returns-clause-agree : goal.returns-clause-agree
returns-clause-agree c =
    rw (c.give.ensures, c.deref.ensures.value)
    (is_put c.self.inside.shape _ _ c.args.extents.now c.args.group c.args.class c.args.members _ c.self.view_is refl (subst AreGroups c.self.view_is c.self.invariant.groups)
    c.requires.agree c.requires.free c.requires.there c.requires.fine).agree

pub returns-clause-owned : goal.returns-clause-owned
returns-clause-owned c = search rules
