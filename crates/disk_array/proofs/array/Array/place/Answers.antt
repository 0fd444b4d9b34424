use Rattle.std.proofs.Common.{rules}
use Rattle.std.proofs.lemmas.Option.{same_Some}
use Rattle.flat_machine.specs.Flat.{content_under}
use Rattle.slot_tables.proofs.Fills.{fill_refused}
use Rattle.disk_array.proofs.Refusing.{unfilled_reported}
use Rattle.disk_array.proofs.array.Array.place.Goals as goal

pub returns-in-Some-clause-flat : goal.returns-in-Some-clause-flat
returns-in-Some-clause-flat g c F w shows held =
    fill_refused c.args.self.now F w (g.C.Hold.names c.args.claim) (content_under c.args.kind c.args.payload.now) c.in-Some.refusal (search rules) shows held

pub returns-in-Some-clause-memory : goal.returns-in-Some-clause-memory
returns-in-Some-clause-memory g c is = unfilled_reported c.args.self.now (g.C.Hold.names c.args.claim) c.in-Some.refusal (search rules) (same_Some _ _ is)
