use Rattle.std.proofs.Common.{rules, ◌≡◌, ◌<◌, length, sym, ap, ◌∙◌, subst, List}
use Rattle.extents.specs.Owners.{Owners, IsExtent}
use Rattle.extent_groups.specs.declared.class.Member.{Member}
use Rattle.extent_groups.specs.Faults.{swap_check_of}
use Rattle.extent_groups.specs.Groups.{members_of}
use Rattle.flat_machine.specs.Moves.{IsMoveReason}
use Rattle.slot_tables.specs.Making.{reported_of}
use Rattle.slot_tables.specs.Views.{ArrayView, IsWhole}
use Rattle.slot_tables.proofs.MoveReasons.{swap_reason, some_member}
use Rattle.disk_array.proofs.array.Array.move_fault.Goals as goal

pub returns-clause-reason : goal.returns-clause-reason
returns-clause-reason g c =
    let v = c.args.self.now in
    let k = c.args.member in
    let to = c.args.to in
    let whole : IsWhole v = subst IsWhole c.self.view_is c.self.invariant.0 in
    let owners : c.self.inside.parts.extents ≡ v.parts.owners = ap (λ (a : ArrayView). a.parts.owners) c.self.view_is in
    let members : c.members-members.result.now ≡ members_of v.parts.groups c.args.group =
    c.members-members.ensures.members ∙ ap (λ (a : ArrayView). members_of a.parts.groups c.args.group) c.self.view_is in
    let low : k < length c.members-members.result.now = search rules in
    let there : IsExtent c.self.inside.parts.extents to.drive to.extent = search rules in
    let reported : c.reported.result ≡ reported_of (swap_check_of v.parts.owners (members_of v.parts.groups c.args.group) to) =
    c.reported.ensures.value ∙ ap reported_of (c.swap_check.ensures ∙ ap (λ o. swap_check_of o c.members-members.result.now to) owners ∙ ap (λ ms. swap_check_of v.parts.owners ms to) members)
    in
    subst (IsMoveReason v.parts.groups (length v.parts.drives) c.args.group k to) (sym reported)
    (swap_reason v c.args.group k to whole (some_member (members_of v.parts.groups c.args.group) k (subst (λ (ms : List Member). k < length ms) members low))
    (subst (λ (o : Owners). IsExtent o to.drive to.extent) owners there))
