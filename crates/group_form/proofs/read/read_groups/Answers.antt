use Rattle.std.proofs.Common.{sym, ◌∙◌}
use Rattle.group_form.proofs.Unique.{one_spelled}
use Rattle.group_form.proofs.read.read_groups.Goals as goal

pub returns-clause-only : goal.returns-clause-only
returns-clause-only c = λ other count are sizes spelled.
    let mine = c.in_ok-groups.ensures.shape in
    one_spelled c.in_ok-groups.groups other _ count _ c.spells.ensures.groups are
    (sym mine.of_extents ∙ sizes.of_extents) (sym mine.of_segments ∙ sizes.of_segments) (sym mine.of_payload ∙ sizes.of_payload) (sym mine.of_blocks ∙ sizes.of_blocks)
    (c.in_ok-spells.ensures.spelled c.if-not-branch.false) spelled
