use Rattle.extents.specs.Shapes.{IsShapeOf}
use Rattle.extent_groups.specs.Groups.{Agree}
use Rattle.group_form.proofs.read.build.Given as goal

abbrev pub invariant-loop-group : goal.invariant-loop-group
invariant-loop-group l = record {
  agree : Agree l.groups l.extents;
  shape : IsShapeOf l.shape l.groups.extents l.groups.segments l.groups.payload l.groups.blocks;
}
