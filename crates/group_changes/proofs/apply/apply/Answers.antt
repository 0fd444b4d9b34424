use Rattle.std.proofs.Common.{List, subst}
use Rattle.std.specs.Prelude.{OnOk}
use Rattle.extent_groups.specs.declared.class.Member.{Member}
use Rattle.group_changes.specs.Applied.{IsMade}
use Rattle.group_changes.proofs.Applying.{Does}
use Rattle.group_changes.proofs.Changing.{applied_dissolve, applied_make, applied_move}
use Rattle.group_changes.proofs.apply.apply.Goals as goal

pub returns-in-Make : goal.returns-in-Make
returns-in-Make c =
    applied_make c.make.result c.args.change.now c.args.world.now c.make.new.world c.in-Make.group c.in-Make.class c.in-Make.members c.in-Make.is
    (subst (λ (members : List Member). OnOk c.make.result (Does c.args.world.now c.make.new.world (IsMade c.in-Make.group c.in-Make.class members))) c.deref.ensures.value c.make.ensures)

pub returns-in-Dissolve : goal.returns-in-Dissolve
returns-in-Dissolve c = applied_dissolve c.dissolve.result c.args.change.now c.args.world.now c.dissolve.new.world c.in-Dissolve.group c.in-Dissolve.is c.dissolve.ensures

pub returns-in-Move : goal.returns-in-Move
returns-in-Move c = applied_move c.shift.result c.args.change.now c.args.world.now c.shift.new.world c.in-Move.group c.in-Move.member c.in-Move.to c.in-Move.is c.shift.ensures
