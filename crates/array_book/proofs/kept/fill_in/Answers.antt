use Rattle.flat_machine.specs.Flat.{Payload}
use Rattle.array_book.proofs.Named.{fill_reported}
use Rattle.array_book.proofs.kept.fill_in.Goals as goal

pub returns-clause-flat : goal.returns-clause-flat
returns-clause-flat g c F w shows held =
    fill_reported c.put_in.result F w c.args.claim.0.slot (Payload c.args.payload.now) c.put_in.new.kept.array c.put_in.ensures.memory c.put_in.ensures.ticket (c.put_in.ensures.flat F w shows held)
