use Rattle.array_store.proofs.Holding.{kept_holds, kept_follows, shortened_makes}
use Rattle.array_store.proofs.block.shorten_log.Goals as goal

pub returns-then-record_count-most-clause-kept : goal.returns-then-record_count-most-clause-kept
returns-then-record_count-most-clause-kept g c =
    let t = c.args.tiers.now in
    let u = c.shorten_log.new.self in
    kept_holds t u (shortened_makes t u c.shorten_log.result c.shorten_log.ensures.flat c.shorten_log.ensures.err)

pub returns-then-record_count-most-clause-stays : goal.returns-then-record_count-most-clause-stays
returns-then-record_count-most-clause-stays g c =
    let t = c.args.tiers.now in
    let u = c.shorten_log.new.self in
    kept_follows t u (shortened_makes t u c.shorten_log.result c.shorten_log.ensures.flat c.shorten_log.ensures.err)
