use Rattle.std.proofs.Common.{◌≡◌, ◌∙◌, Some, None, sym, ap, get_or}
use Rattle.std.specs.Prelude.{option_map, slice_get, slice_set}
use Rattle.std.proofs.lemmas.Option.{same_Some}
use Rattle.extents.specs.Owners.{with_owner}
use Rattle.extent_groups.specs.declared.class.Member.{Member}
use Rattle.extent_groups.specs.Faults.{swap_check_of}
use Rattle.extent_groups.specs.Groups.{members_in, with_group, with_member, swapped_in}
use Rattle.extent_groups.specs.Kept.{group_of, groups_in}
use Rattle.extent_groups.proofs.Agreement.{members_there}
use Rattle.extent_groups.proofs.Keeping.{IsSwapped, is_swapped, number_is, was_of}
use Rattle.extent_groups.proofs.ParitySlots.{slots_swapped}
use Rattle.extent_groups.proofs.table.GroupTable.swap_member.Goals as goal
use Rattle.extent_groups.proofs.table.GroupTable.swap_member.Goals.{After-replace}

-- what is kept then is the group with the other member
is : (c : After-replace) → option_map group_of c.replace.new.kept ≡ Some (with_member (group_of c.in-Some.kept.now) c.args.member c.args.to)
is c =
    c.replace.ensures ∙ ap (option_map (λ g. with_member g c.args.member c.args.to))
    (number_is c.self.inside.shape _ c.args.self.now c.args.group _ c.self.view_is c.in-Some.ensures.within c.index_mut.ensures.value ∙ c.in-Some.ensures.made)

-- and the table shows the swap
swapped : (c : After-replace)
    → IsSwapped (groups_in c.self.inside.shape (slice_set c.self.inside.groups.items c.args.group c.replace.new.kept)) c.args.self.now c.args.extents.now c.args.group c.args.member
    (group_of c.in-Some.kept.now) (get_or c.deref-members.result.now c.args.member (record { drive = 0; extent = 0 })) c.args.to
swapped c =
    let at = was_of c.args.self.now c.args.group c.args.member _ _ _ c.in-Some.ensures.made c.deref-members.ensures.value c.requires.member in
    let fine = ap (λ l. swap_check_of c.args.extents.now l c.args.to) (sym c.deref-members.ensures.value) ∙ sym c.in_default-swap_check.ensures in
    is_swapped c.self.inside.shape _ c.args.self.now c.args.extents.now c.args.group c.args.member _ _ _ c.args.to c.self.view_is c.in-Some.ensures.groups c.requires.agree
    c.in-Some.ensures.within c.in-Some.ensures.made (is c) at c.requires.there fine

pub set_owner-requires : goal.set_owner-requires
set_owner-requires c =
    members_there c.args.self.now c.args.extents.now c.args.group _ c.requires.agree c.in-Some.ensures.made c.args.member _
    (was_of c.args.self.now c.args.group c.args.member _ _ _ c.in-Some.ensures.made c.deref-members.ensures.value c.requires.member)

pub invariant_of-self : goal.invariant_of-self
invariant_of-self c =
    let done = (goal.at.invariant_of-self c).After-replace in
    record {
      groups = (swapped done).groups;
      slots = slots_swapped c.self.inside.shape c.self.inside.groups.items c.self.inside.parity_slots.items c.args.self.now c.args.group c.args.member _ _ c.args.to
          c.self.invariant.slots c.self.view_is c.in-Some.ensures.made (is done);
    }

pub returns-clause-swapped : goal.returns-clause-swapped
returns-clause-swapped c =
    (swapped (goal.at.returns-clause-swapped c).After-replace).shown ∙ ap (λ o. with_group c.args.self.now c.args.group (swapped_in o c.args.member c.args.to)) (sym c.in-Some.ensures.made)

pub returns-clause-agree : goal.returns-clause-agree
returns-clause-agree c = rw (c.set_owner-2.ensures, c.set_owner.ensures) (swapped (goal.at.returns-clause-agree c).After-replace).agree

pub returns-clause-moved : goal.returns-clause-moved
returns-clause-moved c = λ was there.
    let at = was_of c.args.self.now c.args.group c.args.member _ _ (record { drive = 0; extent = 0 }) c.in-Some.ensures.made c.deref-members.ensures.value c.requires.member in
    let same = same_Some _ _ (sym (ap (λ o. slice_get (members_in o) c.args.member) c.in-Some.ensures.made ∙ at) ∙ there) in
    rw (c.set_owner-2.ensures, c.set_owner.ensures)
    (ap (λ (m : Member). with_owner (with_owner c.args.extents.now m.drive m.extent None) c.args.to.drive c.args.to.extent (Some c.args.group)) same)
