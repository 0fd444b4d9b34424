use Rattle.std.proofs.Common.{sym, subst}
use Rattle.extents.specs.Owners.{Owners}
use Rattle.extent_groups.specs.Groups.{Agree}
use Rattle.group_form.proofs.read.build.Goals as goal

pub loop-group-init : goal.loop-group-init
loop-group-init c = record {
  agree = subst (λ (o : Owners). Agree c.in_ok-groups.groups o) (sym c.in_ok-extents.ensures) (c.in_ok-groups.ensures.agree c.args.drives);
  shape = c.in_ok-groups.ensures.shape;
}
