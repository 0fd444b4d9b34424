use Rattle.std.proofs.Common.{ap, ◌∙◌, subst}
use Rattle.slot_tables.specs.Views.{ArrayView, key_at}
use Rattle.migrator.specs.Ages.{by_number}
use Rattle.tiered_array.specs.Marking.{AreMarked}
use Rattle.tiered_array.proofs.Standing.{begins}
use Rattle.tiered_array.proofs.tiers.Tiers.new.Goals as goal

pub returns-clause-ok : goal.returns-clause-ok
returns-clause-ok g c F rep =
    let array = ap (λ (a : ArrayView). a.parts.groups.blocks) c.array.ensures in
    let new = c.in_ok-planner.ensures in
    let p = c.in_ok-planner.planner in
    begins c.args.world F p c.in_ok-hints.hints c.in_ok-holes.holes (new.order ∙ ap by_number array) (new.long ∙ array)
    (subst (λ (a : ArrayView). AreMarked p.ages.marks a.parts.groups (key_at a)) c.array.ensures new.marks) new.end c.in_ok-hints.ensures c.in_ok-holes.ensures rep
