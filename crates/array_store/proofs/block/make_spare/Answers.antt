use Rattle.array_store.proofs.Holding.{kept_holds, kept_follows, spared_makes}
use Rattle.array_store.proofs.block.make_spare.Goals as goal

pub returns-clause-kept : goal.returns-clause-kept
returns-clause-kept g c =
    let t = c.args.tiers.now in
    let u = c.make_spare.new.self in
    kept_holds t u (spared_makes t u c.make_spare.result c.make_spare.ensures.ok c.make_spare.ensures.err)

pub returns-clause-stays : goal.returns-clause-stays
returns-clause-stays g c =
    let t = c.args.tiers.now in
    let u = c.make_spare.new.self in
    kept_follows t u (spared_makes t u c.make_spare.result c.make_spare.ensures.ok c.make_spare.ensures.err)
