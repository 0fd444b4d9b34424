use Rattle.std.proofs.Common.{Some, length, sym, ◌∙◌, ap}
use Rattle.extent_groups.proofs.Roles.{mirrored_in, parity_in}
use Rattle.extent_groups.proofs.table.GroupTable.role.Goals as goal

pub returns-in-Some-Mirrored : goal.returns-in-Some-Mirrored
returns-in-Some-Mirrored c =
    mirrored_in _ c.args.self.now.segments c.args.member c.args.offset c.slots_of-slots.result (length c.members.result.now) c.mirrored_role.result (c.members.ensures.groups.formed c.args.group)
    (sym c.class_of.ensures ∙ c.in-Some-Mirrored.is ∙ ap (λ x. Some x) c.in-Some-Mirrored.field-0-is) c.requires.member (ap length c.members.ensures.members) c.slots_of-slots.ensures.count c.mirrored_role.ensures

pub returns-in-Some-Parity : goal.returns-in-Some-Parity
returns-in-Some-Parity c =
    parity_in _ c.args.self.now.segments c.args.member c.args.offset (length c.members.result.now) c.parity_role.result (c.members.ensures.groups.formed c.args.group)
    (sym c.class_of.ensures ∙ c.in-Some-Parity.is ∙ ap (λ x. Some x) c.in-Some-Parity.field-0-is) c.requires.member c.requires.offset (ap length c.members.ensures.members) c.parity_role.ensures
