use Rattle.std.proofs.Common.{ap, ◌∙◌, length, Some}
use Rattle.extents.specs.Owners.{Owners}
use Rattle.extent_groups.proofs.Readiness.{rows_given, extents_given}
use Rattle.tests_stores.proofs.rig.make.Goals as goal

pub returns-clause-rows : goal.returns-clause-rows
returns-clause-rows g c = (
  ap (λ (o : Owners). length o.rows) c.in-Ok.ensures.owned ∙ rows_given c.args.extents.now c.args.members.now (Some c.args.group),
  ap (λ (o : Owners). o.extents) c.in-Ok.ensures.owned ∙ extents_given c.args.extents.now c.args.members.now (Some c.args.group),
)
