use Rattle.std.proofs.Common.{rules, ◌≡◌, replicate, subst, sym, Ok, Err}
use Rattle.array_store.specs.Blocks.{IsBlockOf}
use Rattle.array_store.proofs.Holding.{DoesRead, kept_holds, kept_follows, read_makes, found_block, nothing_block}
use Rattle.array_store.proofs.block.read_block.Goals as goal

pub returns-in-Ok-Some-clause-kept : goal.returns-in-Ok-Some-clause-kept
returns-in-Ok-Some-clause-kept g c =
    let t = c.args.tiers.now in
    let u = c.read_into.new.self in
    kept_holds t u (read_makes t u c.args.block (Ok c.in-Ok-Some.field-0) c.read_into.new.payload c.in-Ok-Some.ensures.flat)

pub returns-in-Ok-None-clause-kept : goal.returns-in-Ok-None-clause-kept
returns-in-Ok-None-clause-kept g c =
    let t = c.args.tiers.now in
    let u = c.read_into.new.self in
    kept_holds t u (read_makes t u c.args.block (Ok c.in-Ok-None.field-0) c.read_into.new.payload c.in-Ok-None.ensures.flat)

pub returns-in-Err-clause-kept : goal.returns-in-Err-clause-kept
returns-in-Err-clause-kept g c =
    let t = c.args.tiers.now in
    let u = c.read_into.new.self in
    kept_holds t u (read_makes t u c.args.block (Err c.in-Err.field-0) c.read_into.new.payload c.in-Err.ensures.flat)

pub returns-in-Ok-Some-clause-stays : goal.returns-in-Ok-Some-clause-stays
returns-in-Ok-Some-clause-stays g c =
    let t = c.args.tiers.now in
    let u = c.read_into.new.self in
    kept_follows t u (read_makes t u c.args.block (Ok c.in-Ok-Some.field-0) c.read_into.new.payload c.in-Ok-Some.ensures.flat)

pub returns-in-Ok-None-clause-stays : goal.returns-in-Ok-None-clause-stays
returns-in-Ok-None-clause-stays g c =
    let t = c.args.tiers.now in
    let u = c.read_into.new.self in
    kept_follows t u (read_makes t u c.args.block (Ok c.in-Ok-None.field-0) c.read_into.new.payload c.in-Ok-None.ensures.flat)

pub returns-in-Err-clause-stays : goal.returns-in-Err-clause-stays
returns-in-Err-clause-stays g c =
    let t = c.args.tiers.now in
    let u = c.read_into.new.self in
    kept_follows t u (read_makes t u c.args.block (Err c.in-Err.field-0) c.read_into.new.payload c.in-Err.ensures.flat)

pub returns-in-Ok-Some-clause-read : goal.returns-in-Ok-Some-clause-read
returns-in-Ok-Some-clause-read g c = λ bytes holds.
    let t = c.args.tiers.now in
    let does = subst (λ o. DoesRead t c.read_into.new.self c.args.block (Ok o) c.read_into.new.payload) c.in-Ok-Some.field-0-is c.in-Ok-Some.ensures.flat in
    subst (λ n. IsBlockOf n bytes c.args.block c.read_into.new.payload) (sym c.requires.size)
    (found_block t c.read_into.new.self c.args.block c.in-Ok-Some._version c.read_into.new.payload does bytes holds)

pub returns-in-Ok-None-clause-read : goal.returns-in-Ok-None-clause-read
returns-in-Ok-None-clause-read g c = λ bytes holds.
    let t = c.args.tiers.now in
    let does = subst (λ o. DoesRead t c.read_into.new.self c.args.block (Ok o) c.read_into.new.payload) c.in-Ok-None.field-0-is c.in-Ok-None.ensures.flat in
    let after = c.fill.ensures.after in
    let size = c.requires.size in
    let zeros : c.fill.new.self ≡ replicate t.world.array.parts.groups.payload 0 = search rules in
    subst (λ n. IsBlockOf n bytes c.args.block c.fill.new.self) (sym c.requires.size)
    (nothing_block t c.read_into.new.self c.args.block c.read_into.new.payload c.fill.new.self does zeros bytes holds)
