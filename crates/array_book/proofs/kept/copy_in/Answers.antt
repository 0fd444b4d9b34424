use Rattle.array_book.proofs.Named.{copy_reported}
use Rattle.array_book.proofs.kept.copy_in.Goals as goal

pub returns-clause-flat : goal.returns-clause-flat
returns-clause-flat g c F w shows held =
    copy_reported c.put_in.result F w c.args.claim.0.slot c.args.block c.put_in.new.kept.array c.put_in.ensures.memory c.put_in.ensures.ticket (c.put_in.ensures.flat F w shows held)
