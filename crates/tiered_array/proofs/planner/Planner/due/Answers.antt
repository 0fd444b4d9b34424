use Rattle.std.proofs.Common.{◌≡◌, ◌<◌, sym, subst, Some, None}
use Rattle.std.specs.Prelude.{MatchOption}
use Rattle.migrator.specs.Ages.{IsMarked, IsOldest}
use Rattle.tiered_array.specs.Inside.{IsThereHere}
use Rattle.tiered_array.specs.declared.planner.Planner.{Planner}
use Rattle.tiered_array.proofs.Due.{due_some, due_none, found_below}
use Rattle.tiered_array.proofs.planner.Planner.due.Goals as goal

pub returns-in-Some-clause-due : goal.returns-in-Some-clause-due
returns-in-Some-clause-due g c marked =
    let a = c.args.array.now in
    let m = c.args.self.now.ages in
    let found = c.oldest_picked-readable.result in
    let picked = subst (λ (p : Planner). IsOldest p.ages.order (λ b. IsMarked p.ages.marks b × IsThereHere a b) found) c.oldest_mirrored-oldest.ensures.same c.oldest_picked-readable.ensures in
    let same : Some c.in-Some.block ≡ found = found_below a m found (Some c.in-Some.block) picked
    (λ inside. c.in-Some.ensures.same (subst (λ n. MatchOption found (Unit {0}) (λ b. b < n)) (sym c.shape.ensures.of_blocks) inside)) in
    due_some a m c.whole.ensures marked found c.in-Some.block (sym same) picked

pub returns-in-None-clause-due : goal.returns-in-None-clause-due
returns-in-None-clause-due g c marked =
    let a = c.args.array.now in
    let m = c.args.self.now.ages in
    let found = c.oldest_picked-readable.result in
    let picked = subst (λ (p : Planner). IsOldest p.ages.order (λ b. IsMarked p.ages.marks b × IsThereHere a b) found) c.oldest_mirrored-oldest.ensures.same c.oldest_picked-readable.ensures in
    let same : None ≡ found = found_below a m found None picked
    (λ inside. c.in-None.ensures.same (subst (λ n. MatchOption found (Unit {0}) (λ b. b < n)) (sym c.shape.ensures.of_blocks) inside)) in
    due_none a m c.whole.ensures marked found c.oldest_mirrored-oldest.result (sym same) picked (c.oldest_mirrored-oldest.ensures.oldest marked)
