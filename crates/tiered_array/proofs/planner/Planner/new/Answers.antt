use Rattle.std.proofs.Common.{false, length, ap, ◌∙◌}
use Rattle.migrator.specs.Ages.{by_number}
use Rattle.std.proofs.lemmas.List.{length-replicate}
use Rattle.std.proofs.lemmas.List.FromFn.{length-range_with_len}
use Rattle.tiered_array.proofs.Marks.{none_marked}
use Rattle.tiered_array.proofs.planner.Planner.new.Goals as goal

pub mark_stored-requires-clause-order : goal.mark_stored-requires-clause-order
mark_stored-requires-clause-order g c =
    ap length c.in_ok-ages.ensures.order ∙ length-range_with_len 0 c.shape.result.blocks ∙ c.shape.ensures.of_blocks

pub mark_stored-requires-clause-marks : goal.mark_stored-requires-clause-marks
mark_stored-requires-clause-marks g c = ap length c.in_ok-ages.ensures.marks ∙ length-replicate c.shape.result.blocks false ∙ c.shape.ensures.of_blocks

pub mark_stored-requires-clause-none : goal.mark_stored-requires-clause-none
mark_stored-requires-clause-none g c b is = none_marked c.in_ok-ages.ages.marks c.shape.result.blocks b c.in_ok-ages.ensures.marks is

pub returns-clause-order : goal.returns-clause-order
returns-clause-order g c = c.mark_stored.ensures.order ∙ c.in_ok-ages.ensures.order ∙ ap by_number c.shape.ensures.of_blocks

pub returns-clause-long : goal.returns-clause-long
returns-clause-long g c = c.mark_stored.ensures.long ∙ ap length c.in_ok-ages.ensures.marks ∙ length-replicate c.shape.result.blocks false ∙ c.shape.ensures.of_blocks
