use Rattle.std.proofs.Common.{refl, sym, ◌∙◌}
use Rattle.picture.proofs.Sites.{second_at, first_at, parity_at, unused_at}
use Rattle.picture.proofs.mark.mark_in.Goals as goal

pub returns-in-ParityUnit : goal.returns-in-ParityUnit
returns-in-ParityUnit c = λ m at. (refl, parity_at c.args.groups.now c.args.group c.args.member c.args.offset m c.members-members.ensures.groups at c.in-ParityUnit.ensures c.requires.offset)

pub returns-in-Unused : goal.returns-in-Unused
returns-in-Unused c = λ m at. (refl, unused_at c.args.groups.now c.args.group c.args.member c.args.offset m c.members-members.ensures.groups at c.in-Unused.ensures c.requires.offset)

pub returns-then-is_second : goal.returns-then-is_second
returns-then-is_second c = λ m at.
    (let p = second_at c.args.groups.now c.args.group c.args.member c.args.offset c.in-Slot.index c.slot_of-slot.result m c.members-members.ensures.groups at c.in-Slot.ensures
    c.slot_of-slot.ensures.low c.slot_of-slot.ensures.number (sym c.is_second.ensures ∙ c.if-is_second.true) in
    (p.0, p.1, c.block_at-block.ensures))

pub returns-else-is_second : goal.returns-else-is_second
returns-else-is_second c = λ m at.
    (let p = first_at c.args.groups.now c.args.group c.args.member c.args.offset c.in-Slot.index c.slot_of-slot.result m c.members-members.ensures.groups at c.in-Slot.ensures
    c.slot_of-slot.ensures.low c.slot_of-slot.ensures.number (sym c.is_second.ensures ∙ c.if-is_second.false) in
    (p.0, p.1, c.block_at-block.ensures))
