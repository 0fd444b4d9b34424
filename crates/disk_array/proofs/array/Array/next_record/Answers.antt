use Rattle.std.proofs.Common.{rules, arith}
use Rattle.std.proofs.lemmas.Grind.{common_steps}
use Rattle.disk_array.proofs.array.Array.next_record.Goals as goal

pub moved-next-requires : goal.moved-next-requires
moved-next-requires g c =
    c.self.invariant.0.moving c.args.slot c.in-Some-Moving.source c.in-Some-Moving.field-0-1 (search rules)

pub returns-clause-ok : goal.returns-clause-ok
returns-clause-ok g c = grind (arith, common_steps)
