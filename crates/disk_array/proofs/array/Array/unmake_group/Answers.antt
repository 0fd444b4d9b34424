use Rattle.std.proofs.Common.{rules}
use Rattle.flat_machine.specs.Steps.{UnmadeGroup}
use Rattle.flat_machine.specs.Cases.{UnmakeCase}
use Rattle.slot_tables.proofs.Fills.{as_shown}
use Rattle.disk_array.proofs.Closing.{unmake_refused, unmake_done}
use Rattle.disk_array.proofs.array.Array.unmake_group.Goals as goal

pub returns-in-Some-clause-flat : goal.returns-in-Some-clause-flat
returns-in-Some-clause-flat g c F w shows workers = unmake_refused g.C.Hold.names c.args.self.now F w c.args.group c.args.claims.items shows workers c.in-Some.refusal (search rules)

pub returns-in-None-clause-flat : goal.returns-in-None-clause-flat
returns-in-None-clause-flat g c F w shows workers =
    as_shown (λ G. UnmakeCase F w c.args.group (UnmadeGroup c.args.group) G) c.close.new.self _ c.close.ensures.rest
    (unmake_done g.C.Hold.names c.args.self.now F w c.args.group c.args.claims.items shows workers c.close.new.self.parts c.close.new.self.kept c.close.ensures.whole (search rules) c.close.ensures.taken c.close.ensures.closed)
