use Rattle.std.proofs.Common.{◌<◌, subst, rules}
use Rattle.std.specs.Prelude.{MatchOption}
use Rattle.tiered_array.specs.Planning.{IsOldestMirrored}
use Rattle.array_book.specs.Acts.{IsLed}
use Rattle.array_book.specs.Kept.{KeptView, IsKept}
use Rattle.array_book.proofs.Going.{kept_as}
use Rattle.array_book.specs.Planned.{NeedsDemotion}
use Rattle.array_book.proofs.Planning.{due_of}
use Rattle.array_book.proofs.plan.due_demotion.Goals as goal

pub returns-then-needs_demotion-clause-block : goal.returns-then-needs_demotion-clause-block
returns-then-needs_demotion-clause-block g c = subst (λ n. MatchOption c.oldest_mirrored.result (Unit {0}) (λ b. b < n)) c.kept.invariant.0.blocks c.oldest_mirrored.ensures.block

pub returns-then-needs_demotion-clause-due : goal.returns-then-needs_demotion-clause-due
returns-then-needs_demotion-clause-due g c =
    let k = c.args.kept.now in
    let needs : NeedsDemotion k c.args.mirrors.now c.args.low = search rules in
    let oldest = subst (λ (v : KeptView). IsOldestMirrored v.array v.planner c.oldest_mirrored.result) c.kept.view_is (c.oldest_mirrored.ensures.oldest c.kept.invariant.0.marked) in
    due_of c.oldest_mirrored.result (NeedsDemotion k c.args.mirrors.now c.args.low) (IsOldestMirrored k.array k.planner) needs oldest

pub invariant_of-kept : goal.invariant_of-kept
invariant_of-kept g c =
    let k = c.kept.invariant.0 in
    let is : IsKept g.N.Sizes.blocks g.N.Sizes.payload (record { array = c.kept.inside.array; planner = c.oldest_mirrored.new.self }) = search rules in
    kept_as (IsLed c.kept.inside.keeper g.N.Sizes.hands) _ _ _ is k.flat k.shows c.kept.invariant.1
