use Rattle.std.proofs.Common.{rules}
use Rattle.map_join.specs.Maps.{at}
use Rattle.slot_tables.specs.Views.{key_at}
use Rattle.array_book.proofs.Settles.{settled_ok, settled_err}
use Rattle.array_book.proofs.closing.close_and_compare.Goals as goal

pub returns-in-Ok-Ok-clause-ok : goal.returns-in-Ok-Ok-clause-ok
returns-in-Ok-Ok-clause-ok g c =
    settled_ok c.compare.result c.args.even.1.share c.args.odd.1.share c.args.even.1.taken c.args.odd.1.taken (at c.in-Ok-Ok.one) (at c.in-Ok-Ok.other) (key_at c.args.array.now)
    c.compare.ensures.ok (search rules) (search rules) (search rules) (search rules)

pub returns-in-Ok-Ok-clause-err : goal.returns-in-Ok-Ok-clause-err
returns-in-Ok-Ok-clause-err g c =
    settled_err c.compare.result c.args.even.1.share c.args.odd.1.share c.args.even.1.taken c.args.odd.1.taken (at c.in-Ok-Ok.one) (at c.in-Ok-Ok.other) (key_at c.args.array.now)
    c.compare.ensures.err (search rules) (search rules) (search rules) (search rules)
