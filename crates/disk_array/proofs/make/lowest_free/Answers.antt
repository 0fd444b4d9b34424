use Rattle.std.proofs.Common.{refl}
use Rattle.slot_tables.proofs.Makes.{made_more, lowest_is}
use Rattle.disk_array.proofs.make.lowest_free.Goals as goal

pub returns-then-is_free-clause-some : goal.returns-then-is_free-clause-some
returns-then-is_free-clause-some c =
    lowest_is c.args.groups.now c.loop-number.number c.members-members.ensures.groups (c.if-is_free.ensures.0 refl) c.loop-number.invariant

pub loop-number-preserved : goal.loop-number-preserved
loop-number-preserved c =
    made_more c.args.groups.now c.loop-number.number c.members-members.ensures.groups c.loop-number-test.true (λ free. let t = c.if-is_free.ensures.1 free in absurd (cc))
    c.loop-number.invariant
