use Rattle.std.proofs.Common.{◌∙◌}
use Rattle.tests_book.proofs.rig.grouped.Goals as goal

pub loop-class-preserved : goal.loop-class-preserved
loop-class-preserved g c =
    let before = c.loop-class.invariant in
    let sizes = c.make_group.ensures.sizes in (
      c.make_group.ensures.shows before.0.0 before.0.1,
      sizes.0 ∙ before.1,
      sizes.1 ∙ before.2,
    )
