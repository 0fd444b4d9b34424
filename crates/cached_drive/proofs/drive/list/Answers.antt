use Rattle.std.proofs.Common.{Bool, List, refl, subst}
use Rattle.cached_drive.specs.Saving.{IsMarked}
use Rattle.cached_drive.proofs.Marking.{is_listed}
use Rattle.cached_drive.proofs.drive.list.Goals as goal

pub returns-then-is_marked-clause-listed : goal.returns-then-is_marked-clause-listed
returns-then-is_marked-clause-listed c =
    λ all. is_listed c.args.marks.now.items c.args.dirty.now.items c.args.at c.requires.marked
    (subst (λ (l : List Bool). IsMarked l c.args.at) c.deref.ensures.value (c.if-is_marked.ensures.0 refl))
