use Rattle.migrator.proofs.Blanks.{blank_row, row_blank}
use Rattle.migrator.proofs.rows.has_zero.Goals as goal

pub returns : goal.returns
returns c =
    let counts = c.args.counts.now in
    let slots = c.args.slots.now in (
      (λ none. blank_row counts slots c.row_of.result c.row_of-2.result c.keep_if_zero.result c.args.row c.row_of.ensures c.row_of-2.ensures c.keep_if_zero.ensures (c.has_any.ensures.0 none)),
      (λ none. c.has_any.ensures.1 (row_blank counts slots c.row_of.result c.row_of-2.result c.keep_if_zero.result c.args.row c.row_of.ensures c.row_of-2.ensures c.keep_if_zero.ensures none)),
    )
