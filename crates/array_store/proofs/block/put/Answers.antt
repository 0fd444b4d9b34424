use Rattle.std.proofs.Common.{subst}
use Rattle.tiered_array.specs.Placing.{content_of}
use Rattle.tiered_array.specs.declared.outcome.Outcome.TheVariants as outcome
use Rattle.array_store.proofs.Holding.{DoesWrite, kept_holds, kept_follows, placed_holds, wrote_follows, wrote_makes, stopped_makes}
use Rattle.array_store.proofs.block.put.Goals as goal

pub returns-in-Ok-Placed-clause-put : goal.returns-in-Ok-Placed-clause-put
returns-in-Ok-Placed-clause-put g c =
    let a = c.args in
    let t = a.tiers.now in
    let u = c.write_always.new.self in
    let does = subst (DoesWrite t u a.block (content_of a.given)) c.in-Ok-Placed.field-0-is c.in-Ok-Placed.ensures.ok in
    placed_holds t u a.block (content_of a.given) (wrote_makes t u a.block (content_of a.given) (outcome.Placed c.in-Ok-Placed._record) does)

pub returns-in-Ok-Refused-clause-kept : goal.returns-in-Ok-Refused-clause-kept
returns-in-Ok-Refused-clause-kept g c =
    let a = c.args in
    let t = a.tiers.now in
    let u = c.write_always.new.self in
    let does = subst (DoesWrite t u a.block (content_of a.given)) c.in-Ok-Refused.field-0-is c.in-Ok-Refused.ensures.ok in
    kept_holds t u (wrote_makes t u a.block (content_of a.given) (outcome.Refused c.in-Ok-Refused.refusal) does)

pub returns-in-Ok-NoRoom-clause-kept : goal.returns-in-Ok-NoRoom-clause-kept
returns-in-Ok-NoRoom-clause-kept g c =
    let a = c.args in
    let t = a.tiers.now in
    let u = c.write_always.new.self in
    let does = subst (DoesWrite t u a.block (content_of a.given)) c.in-Ok-NoRoom.field-0-is c.in-Ok-NoRoom.ensures.ok in
    kept_holds t u (wrote_makes t u a.block (content_of a.given) outcome.NoRoom does)

pub returns-in-Ok-Nothing-clause-kept : goal.returns-in-Ok-Nothing-clause-kept
returns-in-Ok-Nothing-clause-kept g c =
    let a = c.args in
    let t = a.tiers.now in
    let u = c.write_always.new.self in
    let does = subst (DoesWrite t u a.block (content_of a.given)) c.in-Ok-Nothing.field-0-is c.in-Ok-Nothing.ensures.ok in
    kept_holds t u (wrote_makes t u a.block (content_of a.given) outcome.Nothing does)

pub returns-in-Err-clause-kept : goal.returns-in-Err-clause-kept
returns-in-Err-clause-kept g c =
    let a = c.args in
    kept_holds a.tiers.now c.write_always.new.self (stopped_makes a.tiers.now c.write_always.new.self a.block (content_of a.given) c.in-Err.ensures.err)

pub returns-in-Ok-Placed-clause-stays : goal.returns-in-Ok-Placed-clause-stays
returns-in-Ok-Placed-clause-stays g c =
    wrote_follows c.args.tiers.now c.write_always.new.self c.args.block (content_of c.args.given) c.in-Ok-Placed.field-0 c.in-Ok-Placed.ensures.ok

pub returns-in-Ok-Refused-clause-stays : goal.returns-in-Ok-Refused-clause-stays
returns-in-Ok-Refused-clause-stays g c =
    wrote_follows c.args.tiers.now c.write_always.new.self c.args.block (content_of c.args.given) c.in-Ok-Refused.field-0 c.in-Ok-Refused.ensures.ok

pub returns-in-Ok-NoRoom-clause-stays : goal.returns-in-Ok-NoRoom-clause-stays
returns-in-Ok-NoRoom-clause-stays g c =
    wrote_follows c.args.tiers.now c.write_always.new.self c.args.block (content_of c.args.given) c.in-Ok-NoRoom.field-0 c.in-Ok-NoRoom.ensures.ok

pub returns-in-Ok-Nothing-clause-stays : goal.returns-in-Ok-Nothing-clause-stays
returns-in-Ok-Nothing-clause-stays g c =
    wrote_follows c.args.tiers.now c.write_always.new.self c.args.block (content_of c.args.given) c.in-Ok-Nothing.field-0 c.in-Ok-Nothing.ensures.ok

pub returns-in-Err-clause-stays : goal.returns-in-Err-clause-stays
returns-in-Err-clause-stays g c =
    let a = c.args in
    kept_follows a.tiers.now c.write_always.new.self (stopped_makes a.tiers.now c.write_always.new.self a.block (content_of a.given) c.in-Err.ensures.err)
