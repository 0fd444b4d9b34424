use Rattle.std.proofs.Common.{refl, ◌*◌, ◌∷◌, [], ◌++◌, arith, subst}
use Rattle.std.proofs.lemmas.List.{take_all}
use Rattle.raid_c.specs.Lists.{AreRecords}
use Rattle.raid_c.proofs.Lists.{next}
use Rattle.raid_c.proofs.join.map_of.Goals as goal

pub loop-index-init : goal.loop-index-init
loop-index-init c = ([], refl, c.new-map.ensures.map_of)

pub loop-index-preserved : goal.loop-index-preserved
loop-index-preserved c =
    let was = c.loop-index.invariant in
    let reported = c.in_ok-record_at.ensures.ok in
    (was.0 ++ c.in_ok-record_at.field-0 ∷ [], next c.args.records.now c.loop-index.index was.0 c.in_ok-record_at.field-0 was.1 reported.0 reported.1, c.in_ok-take.ensures.map_of was.0 was.2)

pub returns-clause-ok : goal.returns-clause-ok
returns-clause-ok c =
    let was = c.loop-index.invariant in
    let whole = take_all (12 * c.loop-index.index) c.args.records.now (omega (arith, c.if-records-ne0.false, c.loop-index-test.false)) in
    (was.0, subst (λ xs. AreRecords xs was.0) whole was.1, was.2)
