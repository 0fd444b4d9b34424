use Rattle.std.proofs.Common.{◌∙◌, sym, ap, subst}
use Rattle.std.specs.Prelude.{IfSome}
use Rattle.extent_groups.specs.Missing.{missing_of}
use Rattle.flat_machine.specs.Groups.{ArePresent, IsFirstLost}
use Rattle.unit_store.proofs.Views.{view_lost}
use Rattle.unit_store.proofs.parts.Parts.first_lost.Goals as goal

pub returns-clause-some : goal.returns-clause-some
returns-clause-some g c =
    subst (λ missing. IfSome c.first_lost.result (IsFirstLost missing c.args.members.now))
    (ap (missing_of g.D.Drive.lost) c.deref.ensures.value ∙ sym (view_lost g.D.Drive.units g.D.Drive.lost g.D.Drive.failures c.args.self.now))
    c.first_lost.ensures.some

pub returns-clause-none : goal.returns-clause-none
returns-clause-none g c none =
    subst (λ missing. ArePresent missing c.args.members.now)
    (ap (missing_of g.D.Drive.lost) c.deref.ensures.value ∙ sym (view_lost g.D.Drive.units g.D.Drive.lost g.D.Drive.failures c.args.self.now))
    (c.first_lost.ensures.none none)
