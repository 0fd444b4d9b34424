use Rattle.std.proofs.Common.{rules}
use Rattle.array_book.proofs.Wholes.{missing_after, history_of}
use Rattle.array_book.proofs.settled.settle.Goals as goal

pub returns-in-Ok-clause-missing : goal.returns-in-Ok-clause-missing
returns-in-Ok-clause-missing g c =
    missing_after (λ e. e.hand) c.args.ended.items c.deref.result.now c.into_parts-array.result.3.1 c.close_all-reported.new.keeper c.hired.result c.lowest_missing-missing.result
    (search rules) (search rules) (search rules) c.close_all-reported.ensures.whole c.lowest_missing-missing.ensures

pub returns-in-Err-clause-missing : goal.returns-in-Err-clause-missing
returns-in-Err-clause-missing g c =
    missing_after (λ e. e.hand) c.args.ended.items c.deref.result.now c.into_parts-array.result.3.1 c.close_all-reported.new.keeper c.hired.result c.lowest_missing-missing.result
    (search rules) (search rules) (search rules) c.close_all-reported.ensures.whole c.lowest_missing-missing.ensures

pub returns-in-Ok-clause-history : goal.returns-in-Ok-clause-history
returns-in-Ok-clause-history g c =
    history_of _ _ c.into_parts-array.result.3.1 c.close_all-reported.new.keeper _ (search rules) (search rules) c.whole.ensures c.close_all-reported.ensures.whole (search rules)

pub returns-in-Err-clause-history : goal.returns-in-Err-clause-history
returns-in-Err-clause-history g c =
    history_of _ _ c.into_parts-array.result.3.1 c.close_all-reported.new.keeper _ (search rules) (search rules) c.whole.ensures c.close_all-reported.ensures.whole (search rules)
