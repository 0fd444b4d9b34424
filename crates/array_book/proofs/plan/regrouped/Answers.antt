use Rattle.std.proofs.Common.{◌≡◌, inl, inr, Some, None, subst, arith, rules}
use Rattle.tiered_array.specs.Planning.{IsPlugOf, IsCleanOf}
use Rattle.array_book.specs.Kept.{KeptView}
use Rattle.array_book.proofs.plan.regrouped.Goals as goal

pub returns-in-Some-clause-block : goal.returns-in-Some-clause-block
returns-in-Some-clause-block g c =
    let inside = c.in-Some.ensures.block in
    let size = c.kept.invariant.0.blocks in
    let reported = c.moved.ensures.block in
    omega (arith, inside, size, reported)

pub returns-in-Some-clause-moves : goal.returns-in-Some-clause-moves
returns-in-Some-clause-moves g c =
    (c.in-Some.plan, inl (subst (λ (k : KeptView). IsPlugOf k.array k.planner (Some c.in-Some.plan)) c.kept.view_is c.in-Some.ensures.plan, c.moved.ensures))

pub returns-in-Some-clean_unplugged-clause-block : goal.returns-in-Some-clean_unplugged-clause-block
returns-in-Some-clean_unplugged-clause-block g c =
    let inside = c.in-Some-clean_unplugged.ensures.block in
    let size = c.kept.invariant.0.blocks in
    let reported = c.moved-in-Some-clean_unplugged.ensures.block in
    omega (arith, inside, size, reported)

pub returns-in-Some-clean_unplugged-clause-moves : goal.returns-in-Some-clean_unplugged-clause-moves
returns-in-Some-clean_unplugged-clause-moves g c =
    let plan = c.in-Some-clean_unplugged.plan in
    (plan, inr (subst (λ (k : KeptView). IsCleanOf k.array k.planner (Some plan)) c.kept.view_is c.in-Some-clean_unplugged.ensures.plan, c.moved-in-Some-clean_unplugged.ensures))

pub returns-in-None-clause-moves : goal.returns-in-None-clause-moves
returns-in-None-clause-moves g c =
    let plug : c.plug.result ≡ None = search rules in
    let clean : c.clean_unplugged.result ≡ None = search rules in
    subst (λ (k : KeptView). IsPlugOf k.array k.planner None × IsCleanOf k.array k.planner None) c.kept.view_is
    (subst (IsPlugOf c.kept.inside.array c.kept.inside.planner) plug c.plug.ensures.plan, subst (IsCleanOf c.kept.inside.array c.kept.inside.planner) clean c.clean_unplugged.ensures.plan)
